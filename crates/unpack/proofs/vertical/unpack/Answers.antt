-- `unpack::vertical::unpack` meets its contract: the faults in their order, then the column's entries.
use mathlib.Core.Path.{sym, ap, ◌∙◌}
use native.Mathlib.Omega.{arith}
use Rattle.words.specs.Tabulated.{length-tabulate}
use Rattle.rules.specs.Answer.{accepted}
use Rattle.rules.specs.Vertical as Vertical
use Rattle.answers.specs.Laws.{then_judged, then_refused, passed_up, has_room, within-limits}
use Rattle.answers.specs.Laws.{refused_call, accepted_is}
use Rattle.vertical_scan.specs.GoodColumn.{good-column}
use Rattle.unpack.proofs.vertical.unpack.Goals as goal

pub returns-in_err-judge_unsigned : goal.returns-in_err-judge_unsigned
unfolding Vertical.unpack
returns-in_err-judge_unsigned c =
    rw (passed_up _ _ c.from_residual.ensures) (refused_call _ _ _ _ _ (then_refused _ _ _ c.in_err-judge_unsigned.ensures))

pub returns-in_err-judge_room : goal.returns-in_err-judge_room
unfolding Vertical.unpack
returns-in_err-judge_room c =
    rw (passed_up _ _ c.from_residual-in_err-judge_room.ensures)
    (refused_call _ _ _ _ _
    (then_judged _ _ c.in_ok-judge_unsigned.ensures ∙ then_refused _ _ _ c.in_err-judge_room.ensures))

pub judge_page-requires : goal.judge_page-requires
judge_page-requires c =
    let kept = within-limits _ _ (sym c.in_ok-judge_unsigned.ensures) in kept

pub returns-in_err-judge_page : goal.returns-in_err-judge_page
unfolding Vertical.unpack
returns-in_err-judge_page c =
    rw (passed_up _ _ c.from_residual-in_err-judge_page.ensures)
    (refused_call _ _ _ _ _
    (then_judged _ _ c.in_ok-judge_unsigned.ensures ∙ then_judged _ _ c.in_ok-judge_room.ensures
    ∙ sym c.in_err-judge_page.ensures))

pub unpack_groups-requires : goal.unpack_groups-requires
unpack_groups-requires c =
    let kept = within-limits _ _ (sym c.in_ok-judge_unsigned.ensures) in
    (kept.0, kept.1, (good-column _ _ _ (sym c.in_ok-judge_page.ensures)).0, has_room _ _ (sym c.in_ok-judge_room.ensures))

pub overflow_cast-result : goal.overflow_cast-result
overflow_cast-result c =
    let kept = within-limits _ _ (sym c.in_ok-judge_unsigned.ensures) in omega (arith, kept)

pub returns : goal.returns
unfolding Vertical.unpack
returns c =
    accepted_is _ _ _ _ _ _
    (then_judged _ _ c.in_ok-judge_unsigned.ensures ∙ then_judged _ _ c.in_ok-judge_room.ensures
    ∙ sym c.in_ok-judge_page.ensures)
    (ap accepted (sym (length-tabulate _ _))) c.unpack_groups.ensures
