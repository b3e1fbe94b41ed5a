-- `packed_kernels::slots::ones_two` meets its contract: 1 and 2 ^ d.
use Rattle.std.proofs.Common.{ℕ, ◌+◌, ap, ◌∙◌, arith, pow_mono}
use Rattle.packed_kernels.specs.Slots.{ones_two}
use Rattle.packed_kernels.proofs.slots.ones_two.Goals as goal

pub overflow_add-result : goal.overflow_add-result
overflow_add-result c = omega (arith, pow_mono {i = c.args.d} {j = 32} (omega arith))

pub returns : goal.returns
returns c = ap (λ (x : ℕ). 1 + x) c.pow.ensures ∙ ones_two c.args.d
