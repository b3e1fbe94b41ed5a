-- `arguments::arguments_after` meets its contract: the limits first, then the operator.
use mathlib.Core.Path.{ap}
use mir.Syntax.{w64}
use mir.ValLaws.{to_z-of_z}
use Rattle.answers.specs.Laws.{code_some, passed_up}
use Rattle.arguments.specs.Arguments.{judged, arguments_of, judged-found}
use Rattle.arguments.proofs.arguments_after.Goals as goal
use Rattle.arguments.proofs.arguments_after.Goals.{After-band_of}

-- a judgement that refuses is passed up
pub returns-in_err-limits : goal.returns-in_err-limits
unfolding arguments_of
returns-in_err-limits c =
    let up = passed_up c.from_residual.result c.in_err-limits.field-0.0 c.from_residual.ensures in
    rw (up, c.in_err-limits.was) (judged-found _ _ (code_some c.in_err-limits.field-0.0))

pub returns-in_default : goal.returns-in_default
unfolding judged arguments_of
returns-in_default c =
    let none = rw (to_z-of_z w64 c.args.a c.ranges.a, to_z-of_z w64 c.args.b c.ranges.b) at c.in_default.ensures in
    rw (c.in_ok-limits.was) (ap (judged 0) none)

pub returns : goal.returns
unfolding judged arguments_of
returns c =
    let some = rw (to_z-of_z w64 c.args.a c.ranges.a, to_z-of_z w64 c.args.b c.ranges.b) at c.in-Some.ensures in
    rw (c.in_ok-limits.was) (ap (judged 0) some)
