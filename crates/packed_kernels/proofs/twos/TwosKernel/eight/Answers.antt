-- `packed_kernels::twos::Twos::eight` meets its contract: four times two tests, one in each slot, brought side by side.
use Rattle.std.proofs.Common.{◌≡◌, ℕ, ◌+◌, ◌*◌, Bool, ◌∙◌, ap₂, arith}
use Rattle.rules.specs.Bits.{flag, field}
use Rattle.rules.specs.Bits.Order.{low_first}
use Rattle.compare.specs.Range.{inside}
use Rattle.packed_kernels.specs.Slots.{slots}
use Rattle.packed_kernels.specs.Windows.{two_from}
use Rattle.packed_kernels.specs.Folded.{second_fits, second_tests}
use Rattle.packed_kernels.proofs.twos.TwosKernel.eight.Goals as goal
use Rattle.packed_kernels.proofs.twos.TwosKernel.eight.Goals.{After-two-4}

-- does entry j lie from low to low + span
abbrev test : After-two-4 → ℕ → Bool
test c j =
    let a = c.args in
    inside a.low (a.low + a.span) (field low_first a.page.now (8 * a.at + j * a.w) a.w)

all : (c : After-two-4)
    → c.two.result + c.two-2.result * 4 + c.two-3.result * 16
    + c.two-4.result * 64
    ≡ slots 2 (c.args.w + 1) (λ i. flag (test c (0 + i)))
    + slots 2 (c.args.w + 1) (λ i. flag (test c (2 + i))) * 4
    + slots 2 (c.args.w + 1) (λ i. flag (test c (4 + i))) * 16
    + slots 2 (c.args.w + 1) (λ i. flag (test c (6 + i))) * 64
all c =
    let a = c.args in
    let o = 8 * a.at in
    let lo = a.low in
    let hi = a.low + a.span in
    ap₂ (λ (u v : ℕ). u + v * 64)
    (ap₂ (λ (u v : ℕ). u + v * 16)
    (ap₂ (λ (u v : ℕ). u + v * 4)
    (c.two.ensures.told ∙ two_from (a.w + 1) a.page.now o a.w lo hi 0 _ (omega arith))
    (c.two-2.ensures.told ∙ two_from (a.w + 1) a.page.now o a.w lo hi 2 _ (omega arith)))
    (c.two-3.ensures.told ∙ two_from (a.w + 1) a.page.now o a.w lo hi 4 _ (omega arith)))
    (c.two-4.ensures.told ∙ two_from (a.w + 1) a.page.now o a.w lo hi 6 _ (omega arith))

pub overflow_add-result : goal.overflow_add-result
overflow_add-result c =
    omega (
      arith,
      second_fits c.args.w (test c) _ (omega arith) (all c) (omega arith),
    )

pub returns : goal.returns
returns c = second_tests c.args.w (test c) _ (omega arith) (all c)
