-- `spans_mark::judging::is_misplaced` meets its contract. The loop's invariant: some pair passed is misplaced, or
-- one is among those left, where `from` is the least number that may come next.
use mathlib.Core.Path.{◌≡◌}
use mathlib.Core.Bool.{◌||◌}
use Rattle.rules.specs.Spans.{misplaced}
use Rattle.spans_mark.proofs.judging.is_misplaced.Given as goal

abbrev pub invariant-loop-pair : goal.invariant-loop-pair
invariant-loop-pair l =
    (l.pair-iterator.size ≡ 2)
    × (misplaced l.n 0 l.list ≡ (l.found || misplaced l.n l.from l.pair-iterator.rest.now))
