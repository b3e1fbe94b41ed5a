-- The loop's invariant: the words passed are put over each other.
use mathlib.Core.Path.{◌≡◌}
use Rattle.vertical_scan.specs.UnusedLanes.{or_to}
use Rattle.vertical_scan.proofs.judging.all_planes.Given as goal

abbrev pub invariant-loop-word : goal.invariant-loop-word
invariant-loop-word l = l.all ≡ or_to l.words l.at l.word-index
