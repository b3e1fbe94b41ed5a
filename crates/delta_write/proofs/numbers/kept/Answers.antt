-- `delta_write::numbers::kept` meets its contract.
use Rattle.std.proofs.Common.{ap, ◌∙◌}
use Rattle.rules.specs.Signed.{modulo}
use Rattle.delta_write.proofs.Wide.{wide_fits, wide_is}
use Rattle.delta_write.proofs.numbers.kept.Goals as goal

pub overflow_cast-z : goal.overflow_cast-z
overflow_cast-z c = wide_fits c.args.z c.ranges.z

pub returns : goal.returns
returns c = c.kept32.ensures ∙ ap (modulo 32) (wide_is c.args.z c.ranges.z)
