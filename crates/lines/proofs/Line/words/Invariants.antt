-- `lines::Line::words` meets its contract: each turn lays out one byte more.
use mathlib.Core.Path.{◌≡◌}
use lib.ListN.{take}
use Rattle.lines.specs.Text.{held, laid}
use Rattle.lines.proofs.Line.words.Given as goal

abbrev pub invariant-loop-b : goal.invariant-loop-b
invariant-loop-b l = held l.line ≡ laid (held l.initial.line) (take l.b-index l.words)
