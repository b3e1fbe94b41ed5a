-- `packed_kernels::slots::pair_tests` meets its contract: the even entries and the odd ones, each in a slot of
-- twice its width.
use Rattle.std.proofs.Common.{◌≡◌, ℕ, ◌+◌, ◌-◌, ◌*◌, ◌/◌, ◌^◌, ◌<◌, ◌∙◌, ap₂, arith, pow_pos}
use lib.Bits.{bit_and}
use Rattle.packed_kernels.specs.Slots.{slots}
use Rattle.packed_kernels.specs.SlotTests.{tested, pair, held, held_lt, every-fits, evens, holds_all}
use Rattle.packed_kernels.specs.SlotTests.{tests_all, pairs, pairs-fit}
use Rattle.packed_kernels.proofs.slots.pair_tests.Goals as goal
use Rattle.packed_kernels.proofs.slots.pair_tests.Goals.{After-pow, After-slot_tests-2}

pub overflow_sub-even : goal.overflow_sub-even
overflow_sub-even c = omega (arith, pow_pos c.args.w)

pub overflow_mul-even : goal.overflow_mul-even
overflow_mul-even c =
    let w = c.args.w in
    record {
      fits = rw (c.pow.ensures, c.requires.3)
          (every-fits c.args.n (2 * w) w _ (omega arith) (omega arith) (omega (arith, pow_pos w)));
    }

-- every second entry of x is left
left : (c : After-pow) (x : ℕ)
    → let a = c.args in
    bit_and x ((c.pow.result - 1) * a.ones) ≡ slots a.n (2 * a.w) (held (2 * a.w) a.w x)
left c x = rw (c.pow.ensures, c.requires.3) (evens c.args.n c.args.w (omega arith) x)

pub slot_tests-requires : goal.slot_tests-requires
slot_tests-requires c =
    let a = c.args in (
      omega arith,
      omega arith,
      omega arith,
      c.requires.3,
      holds_all a.n (2 * a.w) a.w (held (2 * a.w) a.w a.x) _ (omega arith)
          (λ i l. held_lt (2 * a.w) a.w a.x i) (left c a.x),
    )

pub slot_tests-requires-2 : goal.slot_tests-requires-2
slot_tests-requires-2 c =
    let a = c.args in
    let x = a.x / 2 ^ a.w in (
      omega arith,
      omega arith,
      omega arith,
      c.requires.3,
      holds_all a.n (2 * a.w) a.w (held (2 * a.w) a.w x) _ (omega arith)
          (λ i l. held_lt (2 * a.w) a.w x i) (left c.before x),
    )

all : (c : After-slot_tests-2) → let a = c.args in
    c.slot_tests.result + c.slot_tests-2.result * 2
    ≡ slots a.n (2 * a.w) (pair (tested a.low a.high a.w a.x))
all c =
    let a = c.args in
    let x = a.x / 2 ^ a.w in
    ap₂ (λ (u v : ℕ). u + v * 2)
    (c.slot_tests.ensures
    ∙ tests_all a.n (2 * a.w) a.w (held (2 * a.w) a.w a.x) _ (omega arith)
    (λ i l. held_lt (2 * a.w) a.w a.x i) (left c.before.before a.x) a.low a.high)
    (c.slot_tests-2.ensures
    ∙ tests_all a.n (2 * a.w) a.w (held (2 * a.w) a.w x) _ (omega arith)
    (λ i l. held_lt (2 * a.w) a.w x i) (left c.before.before x) a.low a.high)
    ∙ pairs a.n a.w (omega arith) a.low a.high a.x

fits : (c : After-slot_tests-2) → c.slot_tests.result + c.slot_tests-2.result * 2 < 2 ^ 64
fits c =
    let a = c.args in
    rw (all c) (pairs-fit a.n a.w (tested a.low a.high a.w a.x) (omega arith) (omega arith))

pub overflow_mul-result : goal.overflow_mul-result
overflow_mul-result c = omega (arith, fits c)

pub overflow_add-result : goal.overflow_add-result
overflow_add-result c = omega (arith, fits c)

pub returns : goal.returns
returns c = all c
