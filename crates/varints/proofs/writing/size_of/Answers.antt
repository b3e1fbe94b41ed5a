-- `varints::writing::size_of` meets its contract: each turn counts a byte, and takes its seven bits off.
use mathlib.Core.Path.{ap}
use native.Mathlib.Omega.{arith}
use lib.ListN.{length}
use Rattle.varints.specs.Shortness.{shortest-last, shortest-more, shortest-some, shortest-size}
use Rattle.varints.proofs.writing.size_of.Goals as goal

pub overflow_add-size : goal.overflow_add-size
overflow_add-size c =
    omega (arith, shortest-some c.loop-left.left, shortest-size 32 c.args.x (omega arith))

pub loop-left-preserved : goal.loop-left-preserved
loop-left-preserved c = omega (arith, ap length (shortest-more c.loop-left.left c.loop-left-test.true))

pub returns : goal.returns
returns c = omega (arith, ap length (shortest-last c.loop-left.left c.loop-left-test.false))
