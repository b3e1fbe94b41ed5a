-- `delta_octets::testing::test_whole` meets its contract: each turn tests an entry, kept as what it is above the
-- range's low end, and reaches the next.
use Rattle.std.proofs.Common.{◌+◌, ◌%◌, ◌^◌}
use Rattle.compare.specs.Range.{ranged}
use Rattle.delta_octets.specs.Steps.{step_from}
use Rattle.delta_octets.specs.Octets.{Tested}
use Rattle.delta_octets.proofs.testing.test_whole.Given as goal

abbrev pub invariant-loop-j : goal.invariant-loop-j
invariant-loop-j l =
    Tested 32 (λ u. ranged l.range ((u + l.range.low) % 2 ^ 32)) l.initial.y
    (step_from l.least l.body l.at l.w) l.j l.bits l.y
