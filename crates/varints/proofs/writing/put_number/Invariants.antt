-- `varints::writing::put_number` meets its contract: each turn stores seven bits, and what is left is to be put
-- behind them.
use mathlib.Core.Path.{◌≡◌}
use Prim.Native.Nat.{◌+◌}
use lib.ListN.{length}
use Rattle.rules.specs.Bits.{put}
use Rattle.rules.specs.Shortest.{shortest}
use Rattle.varints.proofs.writing.put_number.Given as goal

abbrev pub invariant-loop-rest : goal.invariant-loop-rest
invariant-loop-rest l =
    (length l.page ≡ length l.initial.page) × (put l.page l.i (shortest l.rest) ≡ put l.initial.page l.at (shortest l.x))
    × (l.i + length (shortest l.rest) ≡ l.at + length (shortest l.x))

abbrev pub decreases-loop-rest : goal.decreases-loop-rest
decreases-loop-rest l = l.rest
