-- The loop's invariant: the words turned so far are in place.
use mathlib.Core.Path.{◌≡◌}
use Rattle.rules.specs.Bits.{put, tabulate}
use Rattle.vertical_turn.specs.PlanesFromBytes.{turned_down}
use Rattle.vertical_turn.proofs.packing.lay_each.Given as goal

abbrev pub invariant-loop-t : goal.invariant-loop-t
invariant-loop-t l = l.planes ≡ put l.initial.planes l.k (tabulate l.t (turned_down l.words l.n))
