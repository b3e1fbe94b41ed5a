-- `scan_day::picture::strip` meets its contract: each turn lays out one cell more.
use mathlib.Core.Path.{◌≡◌}
use mathlib.Core.List.{[]}
use Rattle.rules.specs.Bits.{tabulate}
use Rattle.lines.specs.Text.{held, laid}
use Rattle.scan_day.specs.Picture.{cell_at}
use Rattle.scan_day.proofs.picture.strip.Given as goal

abbrev pub invariant-loop-c : goal.invariant-loop-c
invariant-loop-c l =
    held l.line ≡ laid [] (tabulate l.c (cell_at l.day l.from l.end l.answered l.selected))
