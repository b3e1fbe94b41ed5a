-- `delta_read::heads::is_shaped` meets its contract: test by test, as the definition has them.
use Rattle.rules.specs.Delta.{shaped}
use Rattle.delta_read.proofs.heads.is_shaped.Goals as goal
use Rattle.std.proofs.Common.{arith}
use Rattle.std.proofs.lemmas.Grind.{common_steps}

pub returns-then-size-minis-eq0 : goal.returns-then-size-minis-eq0
unfolding shaped
returns-then-size-minis-eq0 c = grind (arith, common_steps)

pub returns-else-size-minis-eq0 : goal.returns-else-size-minis-eq0
unfolding shaped
returns-else-size-minis-eq0 c = grind (arith, common_steps)
