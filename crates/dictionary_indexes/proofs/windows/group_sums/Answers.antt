-- `dictionary_indexes::windows::group_sums` meets its contract: eight indexes in a window, or four and four in the
-- next.
use mathlib.Core.Path.{◌≡◌, sym, ap, ap₂, ◌∙◌}
use mathlib.Core.Bool.{◌||◌}
use Prim.Native.Nat.{ℕ, ◌+◌, ◌*◌, ◌/◌, ◌%◌, ◌^◌, ◌≤◌}
use native.Mathlib.Nat.{div-one}
use native.Mathlib.Omega.{arith}
use borrow.Author.Rules.{rules}
use Rattle.words.specs.Joined.{Small}
use Rattle.packed_kernels.specs.Slots.{slots}
use Rattle.words.specs.Nonzero.{any_masked}
use Rattle.dictionary_indexes.specs.IndexWindows.{window-some, two_fours}
use Rattle.dictionary_indexes.proofs.windows.group_sums.Goals as goal

-- the slots of a window, where it has so many pairs
four_pairs : (n w : ℕ) → n ≡ 4 → n * (2 * w) ≤ 64 → 4 * (2 * w) ≤ 64
four_pairs n w all room = rw (← all) room

pairs : (n k w ones : ℕ) → n ≡ k → ones ≡ slots n (2 * w) (λ i. 1) → ones ≡ slots k (2 * w) (λ i. 1)
pairs n k w ones all is = is ∙ ap (λ (n : ℕ). slots n (2 * w) (λ i. 1)) all

pub sums-requires : goal.sums-requires
sums-requires c =
    let a = c.args in
    let all = c.if-n-eq4.true in (
      search rules,
      search rules,
      four_pairs a.n a.w all c.requires.2,
      pairs a.n 4 a.w a.ones all c.requires.3,
      c.requires.4,
    )

pub returns-then-n-eq4 : goal.returns-then-n-eq4
returns-then-n-eq4 c =
    let a = c.args in
    c.sums.ensures
    ∙ window-some a.page.now 8 a.at 0 a.w a.limit c.load8-x.result (λ k. (c.type_inv.page k).fits)
    (omega (arith, four_pairs a.n a.w c.if-n-eq4.true c.requires.2))
    (c.load8-x.ensures ∙ sym (div-one _)) (omega arith)

pub sums-requires-2 : goal.sums-requires-2
sums-requires-2 c =
    let a = c.args in
    (search rules, search rules, omega arith, pairs a.n 2 a.w a.ones (omega arith) c.requires.3, c.requires.4)

pub sums-requires-3 : goal.sums-requires-3
sums-requires-3 c =
    let a = c.args in
    (search rules, search rules, omega arith, pairs a.n 2 a.w a.ones (omega arith) c.requires.3, c.requires.4)

pub returns : goal.returns
returns c =
    let a = c.args in
    let page = a.page.now in
    let o = 4 * a.w % 8 in
    let all : Small 8 page = λ k. (c.type_inv.page k).fits in
    any_masked (2 ^ a.w * a.ones) c.sums-2.result c.sums-3.result
    ∙ ap₂ ◌||◌
    (c.sums-2.ensures
    ∙ window-some page 4 a.at 0 a.w a.limit c.load8-x.result all (omega arith)
    (c.load8-x.ensures ∙ sym (div-one _)) (omega arith))
    (c.sums-3.ensures
    ∙ window-some page 4 (a.at + a.w / 2) o a.w a.limit (c.load8.result / 2 ^ o) all (omega arith)
    (ap (λ (v : ℕ). v / 2 ^ o) c.load8.ensures) (omega arith))
    ∙ two_fours page a.w a.limit (8 * a.at)
