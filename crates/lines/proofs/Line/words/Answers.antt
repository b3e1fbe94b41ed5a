-- `lines::Line::words` meets its contract: each turn lays out one byte more.
use mathlib.Core.Path.{◌∙◌}
use native.Mathlib.Omega.{arith}
use borrow.Author.Rules.{rules}
use Rattle.lines.specs.Text.{held}
use Rattle.lines.specs.Laws.{none, next}
use Rattle.lines.proofs.Line.words.Goals as goal

pub loop-b-init : goal.loop-b-init
unfolding held
loop-b-init c = none c.args.self.text c.args.self.used (search rules)

pub loop-b-preserved : goal.loop-b-preserved
loop-b-preserved c =
    c.place-line.ensures
    ∙ next (held c.args.self) (held c.loop-b.line) c.args.words.now c.loop-b.b-index (omega arith)
    c.loop-b.invariant
