-- The loop's invariant: the bytes of the entries behind are gathered.
use mathlib.Core.Path.{◌≡◌}
use Rattle.vertical_turn.specs.PlanesFromBytes.{gathered_from}
use Rattle.vertical_turn.proofs.gathering.gather_one.Given as goal

abbrev pub invariant-loop-b : goal.invariant-loop-b
invariant-loop-b l =
    l.x ≡ gathered_from l.entries l.low l.r l.b
