-- The loop's invariant: both ends are true to the planes taken.
use mathlib.Core.Path.{◌≡◌}
use Prim.Native.Nat.{◌-◌}
use lib.ListN.{length}
use Rattle.vertical_compare.specs.Ends.{end_at}
use Rattle.vertical_compare.proofs.groups.compare_group.Given as goal

abbrev pub invariant-loop-i : goal.invariant-loop-i
invariant-loop-i l =
    (l.lower ≡ end_at 64 l.planes l.i (length l.planes - l.i) l.low)
    × (l.upper ≡ end_at 64 l.planes l.i (length l.planes - l.i) l.high)
