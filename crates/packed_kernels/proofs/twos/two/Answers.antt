-- `packed_kernels::twos::two` meets its contract: the two entries of a window, each in a slot of its own.
use Rattle.std.proofs.Common.{◌≡◌, ℕ, ◌+◌, ◌*◌, ◌/◌, ◌%◌, ◌^◌, ap, ◌∙◌, arith}
use Rattle.rules.specs.Bits.{flag, field}
use Rattle.rules.specs.Bits.Order.{low_first}
use Rattle.compare.specs.Range.{inside}
use Rattle.words.specs.Joined.{Small}
use Rattle.packed_kernels.specs.Slots.{slots, slots-ext}
use Rattle.packed_kernels.specs.SlotTests.{held, held_lt, holds_all, tests_all}
use Rattle.packed_kernels.specs.Windows.{window-entry}
use Rattle.packed_kernels.specs.Folded.{two_le}
use Rattle.packed_kernels.proofs.twos.two.Goals as goal
use Rattle.packed_kernels.proofs.twos.two.Goals.{After-slot_tests}

pub slot_tests-requires : goal.slot_tests-requires
slot_tests-requires c =
    let a = c.args in
    let x = c.load8.result / 2 ^ (a.b % 8) in (
      omega arith,
      omega arith,
      omega arith,
      c.ones_two.ensures,
      holds_all 2 (a.w + 1) a.w (held a.w a.w x) _ (omega arith) (λ i m. held_lt a.w a.w x i)
          c.apart.ensures,
    )

told : (c : After-slot_tests) → let a = c.args in
    c.slot_tests.result
    ≡ slots 2 (a.w + 1)
    (λ i. flag (inside a.low a.high (field low_first a.page.now (8 * a.at + a.b + i * a.w) a.w)))
told c =
    let a = c.args in
    let o = a.b % 8 in
    let x = c.load8.result / 2 ^ o in
    let all : Small 8 a.page.now = λ k. (c.type_inv.page k).fits in
    c.slot_tests.ensures
    ∙ tests_all 2 (a.w + 1) a.w (held a.w a.w x) _ (omega arith) (λ i m. held_lt a.w a.w x i)
    c.apart.ensures a.low a.high
    ∙ slots-ext 2 (a.w + 1) (λ i m. ap (λ (v : ℕ). flag (inside a.low a.high v))
    (window-entry a.page.now 2 (a.at + a.b / 8) o a.w x all (omega arith)
    (ap (λ (v : ℕ). v / 2 ^ o) c.load8.ensures) (omega arith) i m))

pub returns : goal.returns
returns c =
    let a = c.args in record {
      told = told c;
      small = two_le (a.w + 1)
          (λ i. inside a.low a.high (field low_first a.page.now (8 * a.at + a.b + i * a.w) a.w)) _
          (omega arith) (told c);
    }
