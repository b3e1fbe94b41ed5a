-- `packed_kernels::fours::four_in` meets its contract: two pairs of digits side by side.
use Rattle.std.proofs.Common.{arith}
use Rattle.packed_kernels.specs.SlotTests.{tested}
use Rattle.packed_kernels.specs.Folded.{four_fits, four_tests}
use Rattle.packed_kernels.proofs.fours.four_in.Goals as goal

pub overflow_add-result : goal.overflow_add-result
overflow_add-result c =
    let a = c.args in
    record {
      fits = four_fits a.w (tested a.low a.high a.w a.x) c.pair_tests-y.result (omega arith)
          c.pair_tests-y.ensures (omega arith);
    }

pub returns-clause-told : goal.returns-clause-told
returns-clause-told c =
    let a = c.args in
    four_tests a.w (tested a.low a.high a.w a.x) c.pair_tests-y.result (omega arith) c.pair_tests-y.ensures
