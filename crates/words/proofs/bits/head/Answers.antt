-- `words::bits::head` meets its contract: `1 << r` is 2 ^ r.
use native.Mathlib.Omega.{arith}
use lib.Pow.{pow_pos}
use Rattle.words.specs.Bits.{one_shl}
use Rattle.words.proofs.bits.head.Goals as goal

pub overflow_cast-result : goal.overflow_cast-result
overflow_cast-result c = omega (arith, c.type_inv.part 0)

pub nonzero_rem-result : goal.nonzero_rem-result
nonzero_rem-result c = rw (one_shl 64 c.args.r (omega arith)) (pow_pos c.args.r)

pub returns : goal.returns
returns c = rw (one_shl 64 c.args.r (omega arith))
