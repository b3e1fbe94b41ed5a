-- `spans_list::from_bitmap::from_bitmap` meets its contract: the limit, the bitmap's length, then the room.
use mathlib.Core.Path.{sym, ap, ◌∙◌}
use mathlib.Core.Bool.{Bool}
use Prim.Native.Nat.{ℕ, ◌/◌}
use native.Mathlib.Omega.{arith}
use lib.ListN.{length}
use borrow.Author.Tests.{lt-ltb, le-ltb}
use Rattle.rules.specs.Answer.{faulty, answered}
use Rattle.rules.specs.Spans.{spans, from_bitmap}
use Rattle.rules.specs.declared.Refusal.TheVariants.{InputEndsTooEarly}
use Rattle.answers.specs.Laws.{then_found, then_none, then_refused, then_judged, passed_up, refused_call}
use Rattle.spans_list.proofs.from_bitmap.from_bitmap.Goals as goal

pub returns-in_err-judge_signed : goal.returns-in_err-judge_signed
unfolding from_bitmap
returns-in_err-judge_signed c =
    rw (passed_up _ _ c.from_residual.ensures)
    (refused_call _ _ _ _ _ (then_refused _ _ _ c.in_err-judge_signed.ensures))

pub returns-then-bitmap-n : goal.returns-then-bitmap-n
unfolding from_bitmap
returns-then-bitmap-n c =
    let short = ap (λ (b : Bool). faulty b 5) (lt-ltb _ _ c.if-bitmap-n.true) in
    refused_call _ _ _ InputEndsTooEarly _
    (then_judged _ _ c.in_ok-judge_signed.ensures ∙ then_found _ _ 5 short (λ z. omega arith))

pub returns : goal.returns
unfolding from_bitmap
returns c =
    let a = c.args in
    let long = ap (λ (b : Bool). faulty b 5) (le-ltb _ _ c.if-bitmap-n.false) in
    c.listed.ensures
    ∙ ap (λ (fault : ℕ). answered fault (length (spans a.bitmap.now a.n) / 2) (spans a.bitmap.now a.n)
    a.places.now)
    (sym (then_judged _ _ c.in_ok-judge_signed.ensures ∙ then_none _ _ long))
