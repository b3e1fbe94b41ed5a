-- `vertical_turn::turning::turn_one` meets its contract: each turn doubles every byte and adds a bit of one word
-- more to it.
use mathlib.Core.Path.{◌≡◌, sym, ap, ◌∙◌}
use mathlib.Core.List.{List}
use Prim.Native.Nat.{ℕ, ◌+◌, ◌-◌, ◌*◌, ◌/◌, ◌^◌, ◌≤◌, ◌<◌}
use native.Mathlib.Omega.{arith}
use lib.Bits.{bit_and}
use lib.ListN.{take, drop, get_or}
use Rattle.std.proofs.lemmas.List.{get_or-take}
use Rattle.std.proofs.Common.{get_or-drop}
use Rattle.vertical_turn.specs.Turned.{turned, turned_none, turned-next, turned-fits}
use Rattle.vertical_turn.proofs.turning.turn_one.Goals as goal

pub loop-word-init : goal.loop-word-init
loop-word-init c = sym (turned_none c.args.words.now c.args.at c.args.i)

-- the bytes with one word more, and that they fit
more : (words : List ℕ) (at n k i x : ℕ) → k < n → n ≤ 8 → x ≡ turned words at k i
    → let next : ℕ = x * 2 + bit_and (get_or (take (at + n - at) (drop at words)) k 0 / 2 ^ i) 72340172838076673 in
    (next ≡ turned words at (k + 1) i) × (next < 2 ^ 64)
more words at n k i x within few so =
    let word : get_or (take (at + n - at) (drop at words)) k 0 ≡ get_or words (at + k) 0 =
    get_or-take (at + n - at) (drop at words) k 0 (omega arith) ∙ get_or-drop at words k 0 in
    rw (word, so) (
      sym (turned-next words at k i),
      omega (arith, turned-next words at k i, turned-fits words at (k + 1) i (omega arith)),
    )

pub overflow_mul-x : goal.overflow_mul-x
overflow_mul-x c =
    let a = c.args in
    let l = c.loop-word in
    omega (arith, more a.words.now a.at a.n l.word-index a.i l.x (omega arith) (omega arith) l.invariant)

pub overflow_add-x : goal.overflow_add-x
overflow_add-x c =
    let a = c.args in
    let l = c.loop-word in
    omega (arith, more a.words.now a.at a.n l.word-index a.i l.x (omega arith) (omega arith) l.invariant)

pub loop-word-preserved : goal.loop-word-preserved
loop-word-preserved c =
    let a = c.args in
    let l = c.loop-word in
    (more a.words.now a.at a.n l.word-index a.i l.x (omega arith) (omega arith) l.invariant).0

pub returns : goal.returns
returns c =
    let a = c.args in
    let e : c.loop-word.word-index ≡ a.n = omega arith in
    c.loop-word.invariant ∙ ap (λ (k : ℕ). turned a.words.now a.at k a.i) e
