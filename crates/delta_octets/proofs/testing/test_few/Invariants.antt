-- `delta_octets::testing::test_few` meets its contract: each turn tests an entry and reaches the next.
use Rattle.std.proofs.Common.{◌+◌}
use Rattle.compare.specs.Range.{ranged}
use Rattle.delta_octets.specs.Steps.{packed_step}
use Rattle.delta_octets.specs.Octets.{Tested}
use Rattle.delta_octets.proofs.testing.test_few.Given as goal

abbrev pub invariant-loop-j : goal.invariant-loop-j
invariant-loop-j l =
    Tested 32 (ranged l.range) l.from (λ u. packed_step l.least l.body l.w (l.i + u)) l.j l.bits l.x
