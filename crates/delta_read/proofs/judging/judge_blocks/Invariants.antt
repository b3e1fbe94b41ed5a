-- `delta_read::judging::judge_blocks` meets its contract. The loop's invariant: the deltas are those passed and
-- what reading on from here gives.
-- Each block takes 128 of the deltas or more, so fewer are left with each turn.
use Prim.Native.Nat.{◌≤◌}
use Rattle.rules.specs.Delta.{blocks_at}
use Rattle.delta_read.specs.BlockByBlock.{Comes}
use Rattle.delta_read.proofs.judging.judge_blocks.Given as goal

abbrev pub invariant-loop-left : goal.invariant-loop-left
invariant-loop-left l =
    (l.left ≤ 16384) × Comes (blocks_at 32 l.size l.minis l.deltas l.deltas l.page l.from) 32 l.size l.minis l.left
    l.page l.at

abbrev pub decreases-loop-left : goal.decreases-loop-left
decreases-loop-left l = l.left
