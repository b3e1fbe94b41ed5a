-- The loop's invariant: both ends have had the same bits, and some lane is undecided.
use Prim.Native.Nat.{◌<◌}
use Rattle.vertical_planes.specs.Together.{Turned}
use Rattle.vertical_planes.proofs.lanes.together.Given as goal

abbrev pub invariant-loop-i : goal.invariant-loop-i
invariant-loop-i l = (0 < l.alike) × Turned l.planes l.lows l.apart l.i l.alike
