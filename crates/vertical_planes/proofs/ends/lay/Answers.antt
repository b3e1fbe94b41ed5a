-- `vertical_planes::ends::lay` meets its contract: the test of the bit picks the definition's case.
use borrow.Author.Tests.{eq-eqb, ne_eqb}
use Rattle.rules.specs.Bits.{bit}
use Rattle.vertical_planes.specs.Ends.{laid}
use Rattle.vertical_planes.proofs.ends.lay.Goals as goal

pub returns-then-c-k-eq1 : goal.returns-then-c-k-eq1
unfolding laid bit
returns-then-c-k-eq1 c = rw (eq-eqb _ _ c.if-c-k-eq1.true)

pub returns-else-c-k-eq1 : goal.returns-else-c-k-eq1
unfolding laid bit
returns-else-c-k-eq1 c = rw (ne_eqb _ _ c.if-c-k-eq1.false)
