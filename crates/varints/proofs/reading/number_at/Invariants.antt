-- `varints::reading::number_at` meets its contract: the sum below its weight is what the bytes passed spell, and
-- the rest is read above it.
use mathlib.Core.Path.{◌≡◌}
use Prim.Native.Nat.{◌-◌, ◌*◌, ◌^◌, ◌<◌}
use lib.ListN.{drop}
use Rattle.rules.specs.Varint.{uleb, number_at}
use Rattle.varints.specs.ByteByByte.{scaled}
use Rattle.varints.proofs.reading.number_at.Given as goal

abbrev pub invariant-loop-passed : goal.invariant-loop-passed
invariant-loop-passed l =
    (number_at 32 l.page l.at ≡ scaled l.scale l.sum l.i (uleb 16 (4 - l.passed) (drop l.i l.page))) × (l.sum < l.scale)
    × (l.scale * 128 ^ (4 - l.passed) ≡ 2 ^ 28)
