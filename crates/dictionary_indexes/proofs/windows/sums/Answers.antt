-- `dictionary_indexes::windows::sums` meets its contract: no slot reaches the next, so that each index is tested by
-- itself.
use Prim.Native.Nat.{◌*◌, ◌/◌, ◌^◌}
use native.Mathlib.Omega.{arith}
use lib.Pow.{pow_pos}
use Rattle.packed_kernels.specs.SlotTests.{every-fits}
use Rattle.dictionary_indexes.specs.IndexWindows.{sum_fits, sums_large}
use Rattle.dictionary_indexes.proofs.windows.sums.Goals as goal

pub overflow_sub-even : goal.overflow_sub-even
overflow_sub-even c = omega (arith, pow_pos c.args.w)

pub overflow_mul-even : goal.overflow_mul-even
overflow_mul-even c =
    let a = c.args in
    record {
      fits = rw (c.pow-p.ensures, c.requires.3)
          (every-fits a.n (2 * a.w) a.w _ (omega arith) (omega arith) (omega (arith, pow_pos a.w)));
    }

pub overflow_mul-rest : goal.overflow_mul-rest
overflow_mul-rest c =
    let a = c.args in
    record {
      fits = rw (c.pow-p.ensures, c.requires.3)
          (every-fits a.n (2 * a.w) a.w _ (omega arith) (omega arith) (omega (arith, pow_pos a.w)));
    }

pub overflow_add-result : goal.overflow_add-result
overflow_add-result c =
    let a = c.args in
    record {
      fits = rw (c.pow-p.ensures, c.requires.3)
          (sum_fits a.n a.w a.limit (omega arith) c.requires.4 a.x (omega arith));
    }

pub overflow_add-result-2 : goal.overflow_add-result-2
overflow_add-result-2 c =
    let a = c.args in
    record {
      fits = rw (c.pow-p.ensures, c.requires.3)
          (sum_fits a.n a.w a.limit (omega arith) c.requires.4 (a.x / 2 ^ a.w) (omega arith));
    }

pub returns : goal.returns
returns c =
    let a = c.args in
    rw (c.pow-p.ensures, c.requires.3) (sums_large a.n a.w a.limit (omega arith) c.requires.4 a.x)
