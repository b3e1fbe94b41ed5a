-- A signed number's `spell` meets its contract: its digits, and before them its sign where it has one.
use mathlib.Core.Path.{◌∙◌, ap}
use mathlib.Core.Bool.{true, false}
use mathlib.Core.List.{[], ◌∷◌}
use mir.Syntax.{w32}
use mir.ValLaws.{to_z-of_z}
use Rattle.lines.specs.Text.{held, laid, decimal}
use Rattle.lines.specs.Laws.{laid-laid, sign-digits}
use Rattle.lines.proofs.spelled.I32Spelled.spell.Goals as goal

pub returns-then-self-lt0 : goal.returns-then-self-lt0
returns-then-self-lt0 c =
    let z = c.args.self in
    let digits = c.unsigned_abs-digits.result in
    let same = to_z-of_z w32 z c.ranges.self in
    rw (c.number.ensures, c.words.ensures)
    (laid-laid (held c.args.line) (45 ∷ []) (decimal digits)
    ∙ ap (laid (held c.args.line))
    (sign-digits z true digits (rw same at c.if-self-lt0.true) (rw same at c.unsigned_abs-digits.ensures.value)))

pub returns-else-self-lt0 : goal.returns-else-self-lt0
returns-else-self-lt0 c =
    let z = c.args.self in
    let digits = c.unsigned_abs-digits.result in
    let same = to_z-of_z w32 z c.ranges.self in
    rw c.number-else-self-lt0.ensures
    (ap (laid (held c.args.line))
    (sign-digits z false digits (rw same at c.if-self-lt0.false) (rw same at c.unsigned_abs-digits.ensures.value)))
