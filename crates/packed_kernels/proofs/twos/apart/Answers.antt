-- `packed_kernels::twos::apart` meets its contract: what stands above the first number is there twice.
use Rattle.std.proofs.Common.{◌*◌, ◌%◌, ◌<◌, mod-lt, arith, pow_pos, pow_mono}
use native.Mathlib.Nat.{mod-le}
use Rattle.packed_kernels.specs.SlotTests.{apart}
use Rattle.packed_kernels.proofs.twos.apart.Goals as goal
use Rattle.packed_kernels.proofs.twos.apart.Goals.{After-pow-2}

pub nonzero_rem-y : goal.nonzero_rem-y
nonzero_rem-y c = omega (arith, c.pow.ensures, pow_pos (2 * c.args.w))

pub nonzero_rem-result : goal.nonzero_rem-result
nonzero_rem-result c = omega (arith, c.pow-2.ensures, pow_pos c.args.w)

pub overflow_sub-result : goal.overflow_sub-result
overflow_sub-result c = mod-le _ _

-- both numbers lie in 60 bits
narrow : (c : After-pow-2) → c.args.x % c.pow.result < 1152921504606846976
narrow c =
    let a = c.args in
    let d = 2 * a.w in
    rw c.pow.ensures (omega (arith, mod-lt a.x (pow_pos d), pow_mono {i = d} {j = 60} (omega arith)))

pub overflow_add-result : goal.overflow_add-result
overflow_add-result c = omega (arith, narrow c)

pub returns : goal.returns
returns c =
    rw (c.pow.ensures, c.pow-2.ensures) (apart c.args.w c.args.x)
