-- `runs_walk::walking::write_runs` meets its contract. The loop's invariant: going on from here leaves what the pass
-- leaves. Each run has an entry, so fewer are left with each turn.
use Rattle.std.proofs.Common.{◌+◌, ◌-◌, ◌≤◌}
use Rattle.runs_read.specs.TwoPasses.{pass}
use Rattle.runs_walk.specs.Covered.{written}
use Rattle.runs_walk.specs.CountedTurns.{onward}
use Rattle.runs_walk.proofs.walking.write_runs.Given as goal

abbrev pub invariant-loop-i : goal.invariant-loop-i
invariant-loop-i g l =
    (l.i ≤ l.n + 7)
    × onward l.n (g.T.RunWriting.write l.writing) l.w l.page
    (pass (written l.n (g.T.RunWriting.write l.writing) l.w) l.w l.n l.page l.initial.out) l.at l.i l.out

abbrev pub decreases-loop-i : goal.decreases-loop-i
decreases-loop-i g l = l.n - l.i
