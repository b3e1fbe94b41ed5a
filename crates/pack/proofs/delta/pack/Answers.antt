-- `pack::delta::pack` meets its contract: the faults in their order, of which 17 never arises, then the page of
-- the entries.
use mathlib.Core.Path.{sym, ap, ◌∙◌}
use native.Mathlib.Omega.{arith}
use Rattle.rules.specs.Answer.{accepted}
use Rattle.rules.specs.DeltaWriter as DeltaWriter
use Rattle.answers.specs.Laws.{then_none, then_judged, then_refused, within_count, has_room, passed_up}
use Rattle.answers.specs.Laws.{refused_call, accepted_is}
use Rattle.delta_write.specs.Deltas.{no_wide_fault}
use Rattle.pack.proofs.delta.pack.Goals as goal

pub returns-in_err-judge_signed : goal.returns-in_err-judge_signed
unfolding DeltaWriter.pack
returns-in_err-judge_signed c =
    rw (passed_up _ _ c.from_residual.ensures)
    (refused_call _ _ _ _ _ (then_refused _ _ _ c.in_err-judge_signed.ensures))

pub returns-in_err-judge_room : goal.returns-in_err-judge_room
unfolding DeltaWriter.pack
returns-in_err-judge_room c =
    let judged = rw c.page_size-size.ensures.sized at c.in_err-judge_room.ensures in
    rw (passed_up _ _ c.from_residual-in_err-judge_room.ensures)
    (refused_call _ _ _ _ _
    (then_judged _ _ c.in_ok-judge_signed.ensures
    ∙ then_none _ _ (no_wide_fault 32 (omega arith) c.args.entries.now) ∙ sym judged))

pub put_page-requires : goal.put_page-requires
put_page-requires c = (
  within_count _ (sym c.in_ok-judge_signed.ensures),
  rw c.page_size-size.ensures.sized at (has_room _ _ (sym c.in_ok-judge_room.ensures)),
)

pub returns : goal.returns
unfolding DeltaWriter.pack
returns c =
    let judged = rw c.page_size-size.ensures.sized at c.in_ok-judge_room.ensures in
    accepted_is _ _ _ _ _ _
    (then_judged _ _ c.in_ok-judge_signed.ensures
    ∙ then_none _ _ (no_wide_fault 32 (omega arith) c.args.entries.now) ∙ sym judged)
    (ap accepted c.page_size-size.ensures.sized) c.put_page.ensures
