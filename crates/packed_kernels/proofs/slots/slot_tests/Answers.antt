-- `packed_kernels::slots::slot_tests` meets its contract: no slot reaches the next, so that each is tested by itself.
use Rattle.std.proofs.Common.{arith, pow_pos, pow_mono}
use Rattle.packed_kernels.specs.SlotTests.{every-fits, sum_fits, rest-fits, all_tested}
use Rattle.packed_kernels.proofs.slots.slot_tests.Goals as goal

pub overflow_mul-ge : goal.overflow_mul-ge
overflow_mul-ge c =
    let a = c.args in
    record {
      fits = rw (c.min.ensures, c.pow-p.ensures, c.requires.3)
          (every-fits a.n a.d a.w _ c.requires.1 c.requires.2 (omega (arith, pow_pos a.w)));
    }

pub overflow_sub-p : goal.overflow_sub-p
overflow_sub-p c = omega (arith, pow_pos c.args.w)

pub overflow_add-le : goal.overflow_add-le
overflow_add-le c = omega (arith, pow_mono {i = c.args.w} {j = 32} (omega arith))

pub overflow_mul-le : goal.overflow_mul-le
overflow_mul-le c =
    let a = c.args in
    record {
      fits = rw (c.min-2.ensures, c.pow-p.ensures, c.requires.3)
          (every-fits a.n a.d a.w _ c.requires.1 c.requires.2 (omega (arith, pow_pos a.w)));
    }

pub overflow_add-result : goal.overflow_add-result
overflow_add-result c =
    let a = c.args in
    record {
      fits = rw (c.min.ensures, c.pow-p.ensures, c.requires.3)
          (sum_fits a.n a.d a.w a.low a.high a.a c.requires.1 c.requires.4 c.requires.2);
    }

pub overflow_sub-result : goal.overflow_sub-result
overflow_sub-result c =
    let a = c.args in
    rw (c.min-2.ensures, c.pow-p.ensures, c.requires.3)
    (rest-fits a.n a.d a.w a.low a.high a.a c.requires.1 c.requires.4)

pub returns : goal.returns
returns c =
    let a = c.args in
    rw (c.min-2.ensures, c.min.ensures, c.pow-p.ensures, c.requires.3)
    (all_tested a.n a.d a.w a.low a.high a.a c.requires.1 c.requires.4)
