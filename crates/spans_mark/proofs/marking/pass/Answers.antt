-- `spans_mark::marking::pass` meets its contract. The loop's invariant: the words in front of word q are in place.
use mathlib.Core.Path.{◌≡◌, refl, sym, ap, ◌∙◌}
use Prim.Native.Nat.{ℕ, ◌+◌, ◌-◌, ◌*◌}
use native.Mathlib.Omega.{arith}
use lib.ListN.{length}
use Rattle.rules.specs.Bits.{bytes, put}
use Rattle.words.specs.Bytes.{length-bytes}
use Rattle.words.specs.Puts.{put-none, put-behind}
use Rattle.spans_mark.specs.Words.{filled, passed, length-filled, filled_more, passed-more}
use Rattle.spans_mark.proofs.marking.pass.Goals as goal

pub loop-q-init : goal.loop-q-init
unfolding filled
loop-q-init c =
    let a = c.args in
    let none : a.at - a.at ≡ 0 = omega arith in
    (rw none refl, rw none (put-none a.bitmap.now (8 * a.at)))

pub loop-q-preserved : goal.loop-q-preserved
loop-q-preserved c =
    let st = c in
    let l = st.loop-q in
    let s = st in
    let a = s.args in
    let k = l.q - a.at in
    let up : l.q + 1 - a.at ≡ k + 1 = omega arith in
    let place : 8 * l.q ≡ 8 * a.at + length (filled k a.x a.rest) =
    omega (arith, length-filled k a.x a.rest) in
    let stored : st.store8.new.s ≡ put l.bitmap (8 * l.q) (bytes 8 (passed k a.x a.rest)) =
    st.store8.ensures ∙ ap (λ (y : ℕ). put l.bitmap (8 * l.q) (bytes 8 y)) l.invariant.0 in (
      rw up (sym (passed-more k a.x a.rest)),
      rw up
          (put-behind a.bitmap.now (8 * a.at) (filled k a.x a.rest) (bytes 8 (passed k a.x a.rest))
          l.invariant.1 place
          stored (omega (arith, place, s.requires.2, length-bytes 8 (passed k a.x a.rest)))
          ∙ ap (put a.bitmap.now (8 * a.at)) (sym (filled_more k a.x a.rest))),
    )

pub returns : goal.returns
returns c =
    let l = c.loop-q in
    let a = c.args in
    let end : l.q ≡ a.to = omega arith in
    record {
      word = l.invariant.0 ∙ ap (λ (q : ℕ). passed (q - a.at) a.x a.rest) end;
      wrote = l.invariant.1
          ∙ ap (λ (q : ℕ). put a.bitmap.now (8 * a.at) (filled (q - a.at) a.x a.rest)) end;
    }
