-- `delta_read::blocks::block_at` meets its contract: the smallest delta, then the width bytes, which are all there,
-- then the bodies.
use mathlib.Core.Path.{◌≡◌, refl, sym, ap, ◌∙◌}
use mathlib.Core.List.{List}
use Prim.Native.Nat.{ℕ, zero, suc, ◌+◌, ◌*◌, ◌-◌, ◌/◌, ◌≤◌, ◌<◌}
use native.Mathlib.Nat.{mul-le-mul}
use native.Mathlib.Omega.{arith}
use lib.ListN.{length, get_or, take, drop, length-drop}
use lib.Seq.{get_or-drop}
use borrow.Author.Rules.{rules}
use mir.Syntax.{w8}
use mir.Val.{Fits}
use borrow.Author.Tests.{lt-ltb, le-ltb}
use Rattle.rules.specs.Varint.{number_at}
use Rattle.rules.specs.Delta.{width_fault, sum, body_bytes, laid_at, block_at}
use Rattle.rules.specs.declared.Number.TheVariants.{Read}
use Rattle.rules.specs.Delta.{Block}
use Rattle.rules.specs.Delta.Block.{Laid, Unlaid}
use Rattle.answers.specs.Laws.{passed_up, code_some}
use Rattle.varints.specs.Places.{next-within}
use Rattle.varints.specs.Fields.{by_read}
use Rattle.delta_read.specs.WidthBytes.{widths-there, sum_le}
use Rattle.delta_read.proofs.NotRead.{not_read}
use Rattle.delta_read.proofs.blocks.block_at.Goals as goal

pub returns-in_default : goal.returns-in_default
unfolding block_at
returns-in_default c =
    let n = c.number_at-least_field in
    not_read Unlaid _ n.result c.in_default.not-Read n.ensures (c.refusal_of.ensures c.in_default.not-Read)

-- the smallest delta was read
module _ (page : List ℕ) (at : ℕ) {least widths : ℕ} (e : Read least widths ≡ number_at 32 page at) where
  on-page : widths ≤ length page
  on-page = (next-within 32 page at least widths (sym e)).0

  on-least : (minis need m : ℕ) {r : Block}
      → r ≡ laid_at least minis need m page widths (width_fault 32 minis need (drop widths page))
      → r ≡ block_at 32 minis need m page at
  unfolding block_at
  on-least minis need m = by_read Unlaid _ (sym e)

  -- the width bytes have no fault
  there : (minis need : ℕ) → 0 ≡ width_fault 32 minis need (drop widths page) → widths + minis ≤ length page
  there minis need fine =
      omega (arith, on-page, length-drop widths page, widths-there 32 minis need (drop widths page) (sym fine))

pub judge_widths-requires : goal.judge_widths-requires
judge_widths-requires c = (on-page _ _ c.in-Read.ensures, search rules)

-- a fault of the width bytes is the block's
unlaid : (h minis need m : ℕ) (page : List ℕ) (at code : ℕ) → (code ≡ 0 → ⊥)
    → Unlaid code ≡ laid_at h minis need m page at code
unfolding laid_at
unlaid h minis need m page at zero fault = absurd (fault refl)
unlaid h minis need m page at (suc code) fault = refl

pub returns-in_err-judge_widths : goal.returns-in_err-judge_widths
returns-in_err-judge_widths c =
    let a = c.args in
    rw (passed_up _ _ c.from_residual.ensures)
    (on-least _ _ c.in-Read.ensures a.minis a.need a.m
    (unlaid _ _ _ _ _ _ _ (code_some _) ∙ ap (laid_at _ _ _ _ _ _) c.in_err-judge_widths.ensures))

pub width_sum-requires : goal.width_sum-requires
width_sum-requires c =
    let a = c.args in
    let all = there _ _ c.in-Read.ensures a.minis a.need c.in_ok-judge_widths.ensures in
    (omega arith, omega arith)

-- the bodies of a block fit a machine word
few : (page : List ℕ) (widths need m total : ℕ) → ((k : ℕ) → Fits w8 (get_or page k 0))
    → total ≡ sum (take need (drop widths page)) → need ≤ 16384 → m ≤ 16384
    → m / 8 * total ≤ 2048 * (255 * 16384)
few page widths need m total bytes is low short =
    let each = sum_le (drop widths page) need (λ i. rw get_or-drop (bytes (widths + i)).fits) in
    mul-le-mul {n₁ = m / 8} {m₁ = total} {n₂ = 2048} {m₂ = 255 * 16384} (omega arith) (omega (arith, is, each))

pub overflow_mul-bodies : goal.overflow_mul-bodies
overflow_mul-bodies c =
    let a = c.args in
    omega (arith, few a.page.now _ a.need a.m _ c.type_inv.page c.width_sum.ensures (omega arith) (omega arith))

pub overflow_add-widths : goal.overflow_add-widths
overflow_add-widths c =
    let a = c.args in
    omega (arith, there _ _ c.in-Read.ensures a.minis a.need c.in_ok-judge_widths.ensures)

pub overflow_sub-page : goal.overflow_sub-page
overflow_sub-page c =
    let a = c.args in
    omega (arith, there _ _ c.in-Read.ensures a.minis a.need c.in_ok-judge_widths.ensures)

-- what the definition gives then, by whether all the bodies are there
module _ (h minis need m : ℕ) (page : List ℕ) (at total : ℕ) (none : width_fault 32 minis need (drop at page) ≡ 0)
    (is : total ≡ sum (take need (drop at page))) where
  cut : length page - (at + minis) < m / 8 * total
      → Unlaid 5 ≡ laid_at h minis need m page at (width_fault 32 minis need (drop at page))
  unfolding laid_at body_bytes
  cut l = rw (none, ← is, lt-ltb (length page - (at + minis)) (m / 8 * total) l)

  laid : m / 8 * total ≤ length page - (at + minis)
      → Laid h at (at + minis + m / 8 * total)
      ≡ laid_at h minis need m page at (width_fault 32 minis need (drop at page))
  unfolding laid_at body_bytes
  laid l = rw (none, ← is, le-ltb (length page - (at + minis)) (m / 8 * total) l)

pub returns-then-page-widths : goal.returns-then-page-widths
returns-then-page-widths c =
    let a = c.args in
    let fine = sym c.in_ok-judge_widths.ensures in
    on-least _ _ c.in-Read.ensures a.minis a.need a.m
    (cut _ _ _ _ _ _ _ fine c.width_sum.ensures (omega arith))

pub overflow_add-result : goal.overflow_add-result
overflow_add-result c =
    let a = c.args in
    omega (arith, there _ _ c.in-Read.ensures a.minis a.need c.in_ok-judge_widths.ensures)

pub overflow_add-result-2 : goal.overflow_add-result-2
overflow_add-result-2 c =
    let a = c.args in
    let small = few a.page.now _ a.need a.m _ c.type_inv.page c.width_sum.ensures (omega arith) (omega arith) in
    omega (arith, small, there _ _ c.in-Read.ensures a.minis a.need c.in_ok-judge_widths.ensures)

pub returns : goal.returns
returns c =
    let a = c.args in
    let fine = sym c.in_ok-judge_widths.ensures in
    on-least _ _ c.in-Read.ensures a.minis a.need a.m
    (laid _ _ _ _ _ _ _ fine c.width_sum.ensures (omega arith))
