-- `words::loads::load_tail` meets its contract: from the last byte down, each turn puts one byte below those read.
use mathlib.Core.Path.{◌≡◌, refl, sym, ap, ◌∙◌}
use mathlib.Core.List.{List, [], ◌∷◌, ◌++◌}
use Prim.Native.Nat.{ℕ, ◌+◌, ◌*◌, ◌^◌, ◌<◌, ◌≤◌}
use Rattle.std.proofs.Common.{append_assoc, append-nil, add_comm, drop-drop, drop_at, drop_of_length-le, length-drop}
use lib.ListN.{length, drop}
use native.Mathlib.Omega.{arith}
use Rattle.rules.specs.Bits.{joined, number}
use Rattle.words.specs.Bytes.{number-end}
use Rattle.words.specs.Entries.{number_short}
use Rattle.words.specs.Joined.{Small}
use Rattle.words.specs.Puts.{part_rest}
use Rattle.words.proofs.loads.load_tail.Goals as goal

-- a byte b is taken off the end of those that are left, r, and t are left
module _ (s r t : List ℕ) (at b : ℕ) (e : r ≡ t ++ (b ∷ []))
    (h : drop at s ≡ r ++ drop (at + length r) s) where
  split : drop at s ≡ t ++ (b ∷ drop (at + length r) s)
  split = h ∙ ap (λ (l : List ℕ). l ++ drop (at + length r) s) e ∙ append_assoc t (b ∷ []) (drop (at + length r) s)

  behind : drop (at + length t) s ≡ b ∷ drop (at + length r) s
  behind =
      sym (drop-drop (length t) at s) ∙ ap (drop (length t)) split
      ∙ drop_at t (b ∷ drop (at + length r) s) (length t) refl

  left : drop at s ≡ t ++ drop (at + length t) s
  left = rw behind split

  read : number (drop (at + length t) s) ≡ number (drop (at + length r) s) * 256 + b
  unfolding joined
  read = rw behind (add_comm b (number (drop (at + length r) s) * 256))

  fits : Small 8 s → length s ≤ at + 8 → number (drop (at + length r) s) * 256 + b < 2 ^ 64
  fits small few = rw (← read) (number_short s (at + length t) small (omega arith))

pub loop-b-init : goal.loop-b-init
loop-b-init c =
    let s = c.args.s.now in
    let at = c.args.at in
    let all : c.into_iter-b-iterator.result.iter.rest.now ≡ drop at s =
    rw (c.into_iter-b-iterator.ensures.into_iter_gives, c.rev-b-items.ensures.source) (c.iter.ensures.rest ∙ part_rest s at) in
    let end : length s ≤ at + length (drop at s) = omega (arith, length-drop at s) in
    record {
      left = rw (all, drop_of_length-le s end) (sym (append-nil _));
      read = rw all (sym (number-end s (at + length (drop at s)) end));
    }

pub overflow_mul-x : goal.overflow_mul-x
overflow_mul-x c =
    omega (
      arith,
      fits _ _ _ _ _ c.in-Some.ensures.steps c.loop-b.invariant.left (λ k. (c.type_inv.s k).fits) (omega arith),
      c.loop-b.invariant.read,
    )

pub overflow_add-x : goal.overflow_add-x
overflow_add-x c =
    omega (
      arith,
      fits _ _ _ _ _ c.in-Some.ensures.steps c.loop-b.invariant.left (λ k. (c.type_inv.s k).fits) (omega arith),
      c.loop-b.invariant.read,
    )

pub loop-b-preserved : goal.loop-b-preserved
loop-b-preserved c = record {
  left = left _ _ _ _ _ c.in-Some.ensures.steps c.loop-b.invariant.left;
  read = rw c.loop-b.invariant.read (sym (read _ _ _ _ _ c.in-Some.ensures.steps c.loop-b.invariant.left));
}
