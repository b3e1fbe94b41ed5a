-- `lines::Line::number` meets its contract: io's fewest digits are those of `decimal`.
use mathlib.Core.Path.{◌∙◌, ap}
use native.Mathlib.Omega.{arith}
use Rattle.lines.specs.Text.{held, laid}
use Rattle.lines.specs.Decimal.{decimal_is}
use Rattle.lines.proofs.Line.number.Goals as goal

pub returns : goal.returns
returns c =
    let e = c.decimal-k.ensures in
    c.words.ensures
    ∙ ap (λ t. laid (held c.args.self) t)
    (e.digits ∙ decimal_is c.args.n c.decimal-k.result (omega (arith, c.ranges.n)) e.len)
