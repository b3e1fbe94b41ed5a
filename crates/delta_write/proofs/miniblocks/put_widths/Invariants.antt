-- `delta_write::miniblocks::put_widths` meets its contract: each turn stores one width behind those that are stored.
use Rattle.std.proofs.Common.{◌≡◌}
use Rattle.rules.specs.Bits.{put}
use Rattle.rules.specs.DeltaWriter.{widths}
use Rattle.delta_write.proofs.miniblocks.put_widths.Given as goal

abbrev pub invariant-loop-j : goal.invariant-loop-j
invariant-loop-j l = l.page ≡ put l.initial.page l.at (widths l.j 32 l.numbers)
