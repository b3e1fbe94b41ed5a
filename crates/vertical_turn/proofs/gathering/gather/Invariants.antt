-- The loop's invariant: the words gathered so far are in place.
use mathlib.Core.Path.{◌≡◌}
use Rattle.rules.specs.Bits.{put, tabulate}
use Rattle.vertical_turn.specs.PlanesFromBytes.{gathered}
use Rattle.vertical_turn.proofs.gathering.gather.Given as goal

abbrev pub invariant-loop-r : goal.invariant-loop-r
invariant-loop-r l = l.words ≡ put l.initial.words 0 (tabulate l.r (gathered l.entries l.low))
