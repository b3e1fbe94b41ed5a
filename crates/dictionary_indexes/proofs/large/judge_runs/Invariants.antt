-- `dictionary_indexes::large::judge_runs` meets its contract. The loop's invariant: the code is what judging on
-- from here gives, and what was found with what going on finds is what the pass finds. Each run has an entry, so
-- fewer are left with each turn.
use mathlib.Core.Path.{◌≡◌}
use Prim.Native.Nat.{◌+◌, ◌-◌, ◌≤◌}
use lib.Dec.{leb}
use lib.ListN.{length}
use Rattle.runs_walk.specs.CountedTurns.{onward}
use Rattle.dictionary_indexes.specs.SomeEntry.{seeks, sought, judging}
use Rattle.dictionary_indexes.proofs.large.judge_runs.Given as goal

abbrev pub invariant-loop-i : goal.invariant-loop-i
invariant-loop-i l =
    (l.i ≤ l.n + 7) × (length l.scratch ≡ length l.initial.scratch) × judging l.w l.n l.page l.at l.i
    × onward l.n (seeks (leb l.limit)) l.w l.page (sought (leb l.limit) l.w l.n l.page) l.at l.i l.large

abbrev pub decreases-loop-i : goal.decreases-loop-i
decreases-loop-i l = l.n - l.i
