-- `delta_write::writing::put_page` meets its contract: the blocks stored, and those still to come behind them.
use Rattle.std.proofs.Common.{◌≡◌, ◌+◌, ◌-◌, length, drop}
use Rattle.rules.specs.Bits.{put}
use Rattle.rules.specs.DeltaWriter.{deltas}
use Rattle.delta_write.specs.Blocks.{all_blocks}
use Rattle.delta_write.proofs.writing.put_page.Given as goal

abbrev pub invariant-loop-from : goal.invariant-loop-from
invariant-loop-from l =
    (l.at + length (all_blocks 32 (drop l.from (deltas 32 l.entries)))
    ≡ l.initial.at + length (all_blocks 32 (deltas 32 l.entries)))
    × (put l.page l.at (all_blocks 32 (drop l.from (deltas 32 l.entries)))
    ≡ put l.initial.page l.initial.at (all_blocks 32 (deltas 32 l.entries)))

abbrev pub decreases-loop-from : goal.decreases-loop-from
decreases-loop-from l = length l.entries - l.from
