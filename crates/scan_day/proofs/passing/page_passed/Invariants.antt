-- `scan_day::passing::page_passed` meets its contract: each turn passes one second.
use mathlib.Core.Path.{◌≡◌}
use mathlib.Core.Bool.{true}
use Prim.Native.Nat.{◌-◌, ◌≤◌}
use Rattle.scan_day.specs.SecondsPassed.{passed, counts, chosen_by}
use Rattle.scan_day.proofs.passing.page_passed.Given as goal

abbrev pub invariant-loop-second : goal.invariant-loop-second
invariant-loop-second l =
    record {
      within : l.second - l.start ≤ l.end - l.start;
      so_far : l.passed ≡ passed (chosen_by l.bitmap l.start) l.start (l.second - l.start) l.initial.passed;
      selected : l.selected ≡ counts (chosen_by l.bitmap l.start) l.start (l.second - l.start) l.initial.selected;
      answered : l.answered ≡ counts (λ _. true) l.start (l.second - l.start) l.initial.answered;
    }
