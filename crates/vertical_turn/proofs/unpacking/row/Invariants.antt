-- The loop's invariant: the places passed have their byte more.
use mathlib.Core.Path.{◌≡◌}
use Rattle.rules.specs.Bits.{put, tabulate}
use Rattle.vertical_turn.specs.Rows.{grown_row}
use Rattle.vertical_turn.proofs.unpacking.row.Given as goal

abbrev pub invariant-loop-i : goal.invariant-loop-i
invariant-loop-i l = l.entries ≡ put l.initial.entries l.from (tabulate l.i (grown_row l.words l.initial.entries l.from))
