-- `delta_write::miniblocks::width_of` meets its contract: the bits of all numbers together have the width of the
-- widest.
use Rattle.std.proofs.Common.{◌∙◌}
use lib.Count.{leading_le}
use Rattle.delta_write.specs.LeastWidth.{width_leading, width_together}
use Rattle.delta_write.proofs.miniblocks.width_of.Goals as goal

pub overflow_sub-result : goal.overflow_sub-result
overflow_sub-result c = leading_le 32 c.bits_together.result

pub returns : goal.returns
returns c =
    let all = c.bits_together.result in
    width_leading 32 all c.bits_together.type_inv
    ∙ width_together 32 all c.args.numbers.now c.bits_together.type_inv
    c.bits_together.ensures
