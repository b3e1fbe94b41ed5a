-- `packed_kernels::eights::eight_in` meets its contract: four pairs of digits become two fours, and these a byte.
use Rattle.std.proofs.Common.{◌≡◌, ℕ, ◌+◌, ◌*◌, ◌/◌, ◌%◌, ◌^◌, ◌<◌, arith}
use lib.Bits.{bit_and}
use Rattle.rules.specs.Bits.{word}
use Rattle.words.specs.Bits.{word_lt}
use Rattle.packed_kernels.specs.SlotTests.{tested}
use Rattle.packed_kernels.specs.Folded.{folded, folded_fits, eight_tests, twos_fit}
use Rattle.packed_kernels.proofs.eights.eight_in.Goals as goal
use Rattle.packed_kernels.proofs.eights.eight_in.Goals.{After-ones_two-twos}

pub overflow_mul-twos : goal.overflow_mul-twos
overflow_mul-twos c =
    let w = c.args.w in
    record { fits = rw c.ones_two-twos.ensures (twos_fit w (omega arith) (omega arith)) }

abbrev both : After-ones_two-twos → ℕ
both c =
    bit_and c.pair_tests-y.result (3 * c.ones_two-twos.result)
    + bit_and (c.pair_tests-y.result / 2 ^ (2 * c.args.w))
    (3 * c.ones_two-twos.result) * 4

sum : (c : After-ones_two-twos) → both c < 2 ^ 64
sum c =
    let a = c.args in
    let t = tested a.low a.high a.w a.x in
    rw (
      c.ones_two-twos.ensures,
      folded a.w t c.pair_tests-y.result (omega arith) c.pair_tests-y.ensures,
    )
    (folded_fits a.w t c.pair_tests-y.result (omega arith) c.pair_tests-y.ensures
    (omega arith))

all : (c : After-ones_two-twos)
    → (both c % 16 + both c / 2 ^ (2 * (2 * c.args.w)) * 16
    ≡ word 8
    (tested c.args.low c.args.high
    c.args.w c.args.x))
    × (word 8
    (tested c.args.low c.args.high
    c.args.w c.args.x) < 256)
all c =
    let a = c.args in
    let t = tested a.low a.high a.w a.x in (
      eight_tests a.w t c.pair_tests-y.result (omega arith) c.pair_tests-y.ensures (both c)
          (rw c.ones_two-twos.ensures
          (folded a.w t c.pair_tests-y.result (omega arith) c.pair_tests-y.ensures)),
      word_lt 8 t,
    )

pub overflow_mul-z : goal.overflow_mul-z
overflow_mul-z c = omega (arith, sum c)

pub overflow_add-z : goal.overflow_add-z
overflow_add-z c = omega (arith, sum c)

pub overflow_mul-result-2 : goal.overflow_mul-result-2
overflow_mul-result-2 c = omega (arith, all c)

pub overflow_add-result : goal.overflow_add-result
overflow_add-result c = omega (arith, all c)

pub overflow_cast-result : goal.overflow_cast-result
overflow_cast-result c = omega (arith, all c)

pub returns : goal.returns
returns c = (all c).0
