-- `spans_mark::to_bitmap::to_bitmap` meets its contract: without a fault the entries covered are marked, and
-- counted.
use mathlib.Core.Path.{sym, ap}
use native.Mathlib.Omega.{arith}
use borrow.Author.Tests.{eqb-true, not-false}
use Rattle.rules.specs.Answer.{accepted}
use Rattle.rules.specs.Spans.{to_bitmap}
use Rattle.answers.specs.Laws.{then_zero, not-faulty, within_count, has_room, passed_up}
use Rattle.answers.specs.Laws.{refused_call, accepted_is}
use Rattle.spans_mark.proofs.to_bitmap.to_bitmap.Goals as goal

pub returns-in_err-judge_list : goal.returns-in_err-judge_list
unfolding to_bitmap
returns-in_err-judge_list c =
    rw (passed_up _ _ c.from_residual.ensures) (refused_call _ _ _ _ _ (sym c.in_err-judge_list.ensures))

pub mark-requires : goal.mark-requires
mark-requires c =
    let x = then_zero _ _ (sym c.in_ok-judge_list.ensures) in
    let y = then_zero _ _ x.1 in
    let z = then_zero _ _ y.1 in (
      within_count _ x.0,
      has_room _ _ z.0,
      eqb-true _ _ (not-false _ (not-faulty _ 5 (λ h. omega arith) y.0)),
      not-faulty _ 18 (λ h. omega arith) z.1,
    )

pub returns : goal.returns
unfolding to_bitmap
returns c =
    let marked = c.mark.ensures in
    accepted_is _ _ _ _ _ _ (sym c.in_ok-judge_list.ensures) (ap accepted marked.count) marked.wrote
