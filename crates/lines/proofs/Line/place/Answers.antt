-- `lines::Line::place` meets its contract: the next place, or nothing where the line is full.
use mathlib.Core.List.{[], ◌∷◌}
use native.Mathlib.Omega.{arith}
use borrow.Author.Rules.{rules}
use Rattle.lines.specs.Text.{held}
use Rattle.lines.specs.Laws.{full, one}
use Rattle.lines.proofs.Line.place.Goals as goal

pub returns-then-self-lt120 : goal.returns-then-self-lt120
unfolding held
returns-then-self-lt120 c =
    one c.args.self.text c.args.self.used (search rules)
    c.args.b (omega arith)

pub returns-else-self-lt120 : goal.returns-else-self-lt120
unfolding held
returns-else-self-lt120 c =
    full c.args.self.text c.args.self.used (search rules)
    (c.args.b ∷ []) (omega arith)
