-- `unpack::runs::unpack` meets its contract: the faults in their order, then the stream's entries.
use mathlib.Core.Path.{sym, ap, ◌∙◌}
use native.Mathlib.Omega.{arith}
use Rattle.words.specs.Tabulated.{length-tabulate}
use Rattle.rules.specs.Answer.{accepted}
use Rattle.rules.specs.Runs as Runs
use Rattle.answers.specs.Laws.{then_judged, then_refused, passed_up, has_room, within-limits}
use Rattle.answers.specs.Laws.{refused_call, accepted_is}
use Rattle.runs_walk.specs.Values.{placed-read}
use Rattle.unpack.proofs.runs.unpack.Goals as goal

pub returns-in_err-judge_unsigned : goal.returns-in_err-judge_unsigned
unfolding Runs.unpack
returns-in_err-judge_unsigned c =
    rw (passed_up _ _ c.from_residual.ensures) (refused_call _ _ _ _ _ (then_refused _ _ _ c.in_err-judge_unsigned.ensures))

pub returns-in_err-judge_room : goal.returns-in_err-judge_room
unfolding Runs.unpack
returns-in_err-judge_room c =
    rw (passed_up _ _ c.from_residual-in_err-judge_room.ensures)
    (refused_call _ _ _ _ _
    (then_judged _ _ c.in_ok-judge_unsigned.ensures ∙ then_refused _ _ _ c.in_err-judge_room.ensures))

pub judge_stream-requires : goal.judge_stream-requires
judge_stream-requires c =
    let kept = within-limits _ _ (sym c.in_ok-judge_unsigned.ensures) in kept

pub returns-in_err-judge_stream : goal.returns-in_err-judge_stream
unfolding Runs.unpack
returns-in_err-judge_stream c =
    rw (passed_up _ _ c.from_residual-in_err-judge_stream.ensures)
    (refused_call _ _ _ _ _
    (then_judged _ _ c.in_ok-judge_unsigned.ensures ∙ then_judged _ _ c.in_ok-judge_room.ensures
    ∙ sym c.in_err-judge_stream.ensures))

pub place_runs-requires : goal.place_runs-requires
place_runs-requires c =
    let kept = within-limits _ _ (sym c.in_ok-judge_unsigned.ensures) in
    (kept.0, kept.1, has_room _ _ (sym c.in_ok-judge_room.ensures))

pub overflow_cast-result : goal.overflow_cast-result
overflow_cast-result c =
    let kept = within-limits _ _ (sym c.in_ok-judge_unsigned.ensures) in omega (arith, kept)

pub returns : goal.returns
unfolding Runs.unpack
returns c =
    let a = c.args in
    accepted_is _ _ _ _ _ _
    (then_judged _ _ c.in_ok-judge_unsigned.ensures ∙ then_judged _ _ c.in_ok-judge_room.ensures
    ∙ sym c.in_ok-judge_stream.ensures)
    (ap accepted (sym (length-tabulate _ _))) (c.place_runs.ensures
    ∙ placed-read (λ x. x) a.width a.n a.page.now a.entries.now (has_room _ _ (sym c.in_ok-judge_room.ensures)) (sym c.in_ok-judge_stream.ensures))
