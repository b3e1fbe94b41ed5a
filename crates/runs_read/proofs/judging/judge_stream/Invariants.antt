-- `runs_read::judging::judge_stream` meets its contract. The loop's invariant: the code is what judging on from
-- here gives.
-- Each run has an entry, so fewer are left with each turn.
use Prim.Native.Nat.{◌≤◌}
use Rattle.rules.specs.Runs.{read, stream_fault}
use Rattle.runs_read.specs.Walks.{Comes}
use Rattle.runs_read.specs.TwoPasses.{judge}
use Rattle.runs_read.proofs.judging.judge_stream.Given as goal

abbrev pub invariant-loop-left : goal.invariant-loop-left
invariant-loop-left l = (l.left ≤ 16384) × Comes judge (stream_fault (read l.w l.n l.page)) l.w l.left l.page l.at tt

abbrev pub decreases-loop-left : goal.decreases-loop-left
decreases-loop-left l = l.left
