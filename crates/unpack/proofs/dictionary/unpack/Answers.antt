-- `unpack::dictionary::unpack` meets its contract: the faults in their order, then the column's entries.
use mathlib.Core.Path.{sym, ap, ◌∙◌}
use native.Mathlib.Omega.{arith}
use Rattle.words.specs.Tabulated.{length-tabulate}
use Rattle.rules.specs.Answer.{accepted}
use Rattle.rules.specs.Dictionary as Dictionary
use Rattle.answers.specs.Laws.{then_judged, then_refused, passed_up, has_room, within_count}
use Rattle.answers.specs.Laws.{refused_call, accepted_is}
use Rattle.unpack.proofs.dictionary.unpack.Goals as goal

pub returns-in_err-judge_signed : goal.returns-in_err-judge_signed
unfolding Dictionary.unpack
returns-in_err-judge_signed c =
    rw (passed_up _ _ c.from_residual.ensures) (refused_call _ _ _ _ _ (then_refused _ _ _ c.in_err-judge_signed.ensures))

pub returns-in_err-judge_room : goal.returns-in_err-judge_room
unfolding Dictionary.unpack
returns-in_err-judge_room c =
    rw (passed_up _ _ c.from_residual-in_err-judge_room.ensures)
    (refused_call _ _ _ _ _
    (then_judged _ _ c.in_ok-judge_signed.ensures ∙ then_refused _ _ _ c.in_err-judge_room.ensures))

pub judge_column-requires : goal.judge_column-requires
judge_column-requires c =
    let kept = within_count _ (sym c.in_ok-judge_signed.ensures) in kept

pub returns-in_err-judge_column : goal.returns-in_err-judge_column
unfolding Dictionary.unpack
returns-in_err-judge_column c =
    rw (passed_up _ _ c.from_residual-in_err-judge_column.ensures)
    (refused_call _ _ _ _ _
    (then_judged _ _ c.in_ok-judge_signed.ensures ∙ then_judged _ _ c.in_ok-judge_room.ensures
    ∙ sym c.in_err-judge_column.ensures))

pub place-requires : goal.place-requires
place-requires c =
    let kept = within_count _ (sym c.in_ok-judge_signed.ensures) in
    (kept, has_room _ _ (sym c.in_ok-judge_room.ensures), sym c.in_ok-judge_column.ensures)

pub overflow_cast-result : goal.overflow_cast-result
overflow_cast-result c =
    let kept = within_count _ (sym c.in_ok-judge_signed.ensures) in omega (arith, kept)

pub returns : goal.returns
unfolding Dictionary.unpack
returns c =
    accepted_is _ _ _ _ _ _
    (then_judged _ _ c.in_ok-judge_signed.ensures ∙ then_judged _ _ c.in_ok-judge_room.ensures
    ∙ sym c.in_ok-judge_column.ensures)
    (ap accepted (sym (length-tabulate _ _))) c.place.ensures
