-- `pack::vertical::pack` meets its contract: the faults in their order, then the planes of the entries.
use mathlib.Core.Path.{sym, ap, ◌∙◌}
use native.Mathlib.Omega.{arith}
use Rattle.rules.specs.Answer.{accepted}
use Rattle.rules.specs.Vertical as Vertical
use Rattle.answers.specs.Laws.{then_judged, then_refused, then_zero, within-limits, has_room, passed_up}
use Rattle.answers.specs.Laws.{refused_call, accepted_is}
use Rattle.vertical_turn.specs.ColumnThereAndBack.{length-packed}
use Rattle.vertical_scan.specs.GoodColumn.{words_le}
use Rattle.pack.proofs.vertical.pack.Goals as goal

pub returns-in_err-judge_unsigned : goal.returns-in_err-judge_unsigned
unfolding Vertical.pack
returns-in_err-judge_unsigned c =
    rw (passed_up _ _ c.from_residual.ensures)
    (refused_call _ _ _ _ _ (then_refused _ _ _ c.in_err-judge_unsigned.ensures))

pub overflow_add-need : goal.overflow_add-need
overflow_add-need c =
    let k = within-limits _ _ (sym c.in_ok-judge_unsigned.ensures) in
    omega (arith, words_le _ _ k.0 k.1)

pub overflow_mul-need : goal.overflow_mul-need
overflow_mul-need c =
    let k = within-limits _ _ (sym c.in_ok-judge_unsigned.ensures) in
    omega (arith, words_le _ _ k.0 k.1)

pub judge_entries-requires : goal.judge_entries-requires
judge_entries-requires c = (within-limits _ _ (sym c.in_ok-judge_unsigned.ensures)).0

pub returns-in_err-judge_entries : goal.returns-in_err-judge_entries
unfolding Vertical.pack
returns-in_err-judge_entries c =
    rw (passed_up _ _ c.from_residual-in_err-judge_entries.ensures)
    (refused_call _ _ _ _ _
    (then_judged _ _ c.in_ok-judge_unsigned.ensures ∙ sym c.in_err-judge_entries.ensures))

pub pack_groups-requires : goal.pack_groups-requires
pack_groups-requires c =
    let k = within-limits _ _ (sym c.in_ok-judge_unsigned.ensures) in
    let z = then_zero _ _ (sym c.in_ok-judge_entries.ensures) in
    (k.0, k.1, has_room _ _ z.1)

pub overflow_cast-result : goal.overflow_cast-result
overflow_cast-result c =
    let k = within-limits _ _ (sym c.in_ok-judge_unsigned.ensures) in
    omega (arith, words_le _ _ k.0 k.1)

pub returns : goal.returns
unfolding Vertical.pack
returns c =
    accepted_is _ _ _ _ _ _
    (then_judged _ _ c.in_ok-judge_unsigned.ensures ∙ sym c.in_ok-judge_entries.ensures)
    (ap accepted (sym (length-packed _ _))) c.pack_groups.ensures
