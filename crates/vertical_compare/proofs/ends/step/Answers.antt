-- `vertical_compare::ends::step` meets its contract: the test of the constant's bit picks the definition's case.
use borrow.Author.Tests.{eq-eqb, ne_eqb}
use Rattle.rules.specs.Bits.{bit}
use Rattle.vertical_compare.specs.Ends.{stepped}
use Rattle.vertical_compare.proofs.ends.step.Goals as goal

pub returns-then-end-left-eq1 : goal.returns-then-end-left-eq1
unfolding stepped bit
returns-then-end-left-eq1 c = rw (eq-eqb _ _ c.if-end-left-eq1.true)

pub returns-else-end-left-eq1 : goal.returns-else-end-left-eq1
unfolding stepped bit
returns-else-end-left-eq1 c = rw (ne_eqb _ _ c.if-end-left-eq1.false)
