-- `compare::ranges::range_to` meets its contract: the test of the ends picks the definition's case.
use Rattle.std.proofs.Common.{le-ltb, lt-ltb}
use Rattle.compare.specs.Range.{range_to}
use Rattle.compare.proofs.ranges.range_to.Goals as goal

pub returns-then-from-to : goal.returns-then-from-to
unfolding range_to
returns-then-from-to c = rw (lt-ltb _ _ c.if-from-to.true, c.flip_of.ensures)

pub returns-else-from-to : goal.returns-else-from-to
unfolding range_to
returns-else-from-to c = rw (le-ltb _ _ c.if-from-to.false, c.flip_of-else-from-to.ensures)
