-- `delta_write::sizes::page_size` meets its contract: the blocks passed, and those still to come.
use Rattle.std.proofs.Common.{◌≡◌, ◌+◌, ◌-◌, length, drop}
use Rattle.rules.specs.DeltaWriter.{deltas, page}
use Rattle.delta_write.specs.Blocks.{all_blocks}
use Rattle.delta_write.proofs.sizes.page_size.Given as goal

abbrev pub invariant-loop-from : goal.invariant-loop-from
invariant-loop-from l =
    l.size + length (all_blocks 32 (drop l.from (deltas 32 l.entries))) ≡ length (page 32 l.entries)

abbrev pub decreases-loop-from : goal.decreases-loop-from
decreases-loop-from l = length l.entries - l.from
