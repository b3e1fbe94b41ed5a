-- `packed_kernels::slots::pow` meets its contract: nothing is shifted out.
use Rattle.std.proofs.Common.{arith}
use Rattle.words.specs.Bits.{one_shl}
use Rattle.packed_kernels.proofs.slots.pow.Goals as goal

pub returns : goal.returns
returns c = one_shl 64 c.args.w (omega arith)
