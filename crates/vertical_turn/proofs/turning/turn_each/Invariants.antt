-- The loop's invariant: the words turned so far are in place.
use mathlib.Core.Path.{◌≡◌}
use Rattle.rules.specs.Bits.{put, tabulate}
use Rattle.vertical_turn.specs.Turned.{turned}
use Rattle.vertical_turn.proofs.turning.turn_each.Given as goal

abbrev pub invariant-loop-i : goal.invariant-loop-i
invariant-loop-i l = l.out ≡ put l.initial.out 0 (tabulate l.i (turned l.words l.at l.n))
