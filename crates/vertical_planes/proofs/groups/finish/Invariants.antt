-- The loop's invariant: the lanes stand as the planes taken say.
use Prim.Native.Nat.{◌-◌}
use lib.ListN.{length}
use Rattle.vertical_planes.specs.Standing.{Standing}
use Rattle.vertical_planes.proofs.groups.finish.Given as goal

abbrev pub invariant-loop-left : goal.invariant-loop-left
invariant-loop-left l = Standing l.planes l.ends.band l.left

abbrev pub decreases-loop-left : goal.decreases-loop-left
decreases-loop-left l = length l.planes - l.left.taken
