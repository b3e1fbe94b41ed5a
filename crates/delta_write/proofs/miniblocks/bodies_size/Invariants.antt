-- `delta_write::miniblocks::bodies_size` meets its contract: 4 bytes for each bit of a width.
use Rattle.std.proofs.Common.{◌≡◌, ◌*◌, ◌≤◌, length}
use Rattle.rules.specs.DeltaWriter.{bodies}
use Rattle.delta_write.proofs.miniblocks.bodies_size.Given as goal

abbrev pub invariant-loop-j : goal.invariant-loop-j
invariant-loop-j l = (l.size ≤ 128 * l.j) × (l.size ≡ length (bodies l.j 32 l.numbers))
