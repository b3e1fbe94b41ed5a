-- `lines::Line::column` meets its contract: the blanks that are missing.
use borrow.Author.Rules.{rules}
use mathlib.Core.Path.{◌∙◌}
use native.Mathlib.Omega.{arith}
use Rattle.lines.specs.Text.{held}
use Rattle.lines.specs.Laws.{padded}
use Rattle.lines.proofs.Line.column.Goals as goal

pub returns : goal.returns
unfolding held
returns c =
    let line = c.args.self in
    c.words.ensures ∙ padded line.text line.used (search rules) c.args.at c.gap-k.result (omega arith)
