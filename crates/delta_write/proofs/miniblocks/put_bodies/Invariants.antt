-- `delta_write::miniblocks::put_bodies` meets its contract: each turn lays one body behind those that are laid.
use Rattle.std.proofs.Common.{◌≡◌, ◌+◌, length}
use Rattle.rules.specs.Bits.{put}
use Rattle.rules.specs.DeltaWriter.{bodies}
use Rattle.delta_write.proofs.miniblocks.put_bodies.Given as goal

abbrev pub invariant-loop-j : goal.invariant-loop-j
invariant-loop-j l =
    (l.next ≡ l.at + length (bodies l.j 32 l.numbers)) × (l.page ≡ put l.initial.page l.at (bodies l.j 32 l.numbers))
