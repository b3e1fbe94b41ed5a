-- `varints::writing::size_of` meets its contract: each turn counts a byte, and takes its seven bits off.
use mathlib.Core.Path.{◌≡◌}
use Prim.Native.Nat.{◌+◌}
use lib.ListN.{length}
use Rattle.rules.specs.Shortest.{shortest}
use Rattle.varints.proofs.writing.size_of.Given as goal

abbrev pub invariant-loop-left : goal.invariant-loop-left
invariant-loop-left l = l.size + length (shortest l.left) ≡ length (shortest l.x) + 1

abbrev pub decreases-loop-left : goal.decreases-loop-left
decreases-loop-left l = l.left
