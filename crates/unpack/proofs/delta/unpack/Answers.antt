-- `unpack::delta::unpack` meets its contract: the faults in their order, then the page's entries.
use mathlib.Core.Path.{sym, ap, ◌∙◌}
use native.Mathlib.Omega.{arith}
use Rattle.words.specs.Tabulated.{length-tabulate}
use Rattle.rules.specs.Answer.{accepted}
use Rattle.rules.specs.Delta as Delta
use Rattle.answers.specs.Laws.{then_judged, then_refused, passed_up, has_room, within_count}
use Rattle.answers.specs.Laws.{refused_call, accepted_is}
use Rattle.unpack.proofs.delta.unpack.Goals as goal

pub returns-in_err-judge_signed : goal.returns-in_err-judge_signed
unfolding Delta.unpack
returns-in_err-judge_signed c =
    rw (passed_up _ _ c.from_residual.ensures) (refused_call _ _ _ _ _ (then_refused _ _ _ c.in_err-judge_signed.ensures))

pub returns-in_err-judge_room : goal.returns-in_err-judge_room
unfolding Delta.unpack
returns-in_err-judge_room c =
    rw (passed_up _ _ c.from_residual-in_err-judge_room.ensures)
    (refused_call _ _ _ _ _
    (then_judged _ _ c.in_ok-judge_signed.ensures ∙ then_refused _ _ _ c.in_err-judge_room.ensures))

pub judge_page-requires : goal.judge_page-requires
judge_page-requires c =
    let kept = within_count _ (sym c.in_ok-judge_signed.ensures) in kept

pub returns-in_err-judge_page : goal.returns-in_err-judge_page
unfolding Delta.unpack
returns-in_err-judge_page c =
    rw (passed_up _ _ c.from_residual-in_err-judge_page.ensures)
    (refused_call _ _ _ _ _
    (then_judged _ _ c.in_ok-judge_signed.ensures ∙ then_judged _ _ c.in_ok-judge_room.ensures
    ∙ sym c.in_err-judge_page.ensures))

pub place-requires : goal.place-requires
place-requires c =
    let kept = within_count _ (sym c.in_ok-judge_signed.ensures) in
    (kept, has_room _ _ (sym c.in_ok-judge_room.ensures), sym c.in_ok-judge_page.ensures)

pub overflow_cast-result : goal.overflow_cast-result
overflow_cast-result c =
    let kept = within_count _ (sym c.in_ok-judge_signed.ensures) in omega (arith, kept)

pub returns : goal.returns
unfolding Delta.unpack
returns c =
    accepted_is _ _ _ _ _ _
    (then_judged _ _ c.in_ok-judge_signed.ensures ∙ then_judged _ _ c.in_ok-judge_room.ensures
    ∙ sym c.in_ok-judge_page.ensures)
    (ap accepted (sym (length-tabulate _ _))) c.place.ensures
