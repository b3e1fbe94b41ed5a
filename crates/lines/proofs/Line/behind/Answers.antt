-- `lines::Line::behind` meets its contract: nothing is used.
use mathlib.Core.Path.{refl}
use Rattle.lines.specs.Text.{held}
use Rattle.lines.proofs.Line.behind.Goals as goal

pub returns : goal.returns
unfolding held
returns c = refl
