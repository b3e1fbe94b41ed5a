-- When a column of bit planes has no fault, in plain conditions.
use Rattle.std.specs.Prelude.{◌≡◌, false, List, ◌↔◌, ℕ, ◌+◌, ◌-◌, ◌*◌, ◌≤◌, ◌<◌, ltb, length}
use Rattle.std.proofs.Math.Logic.Iff
use Rattle.std.proofs.Common.{arith, le-ltb}
use Rattle.rules.specs.Bits.{ceil}
use Rattle.rules.specs.Vertical.{page_words, entry, unused, page_fault}
use Rattle.words.specs.SomeBelow.{none_below}
use Rattle.vertical_turn.specs.NoLaneSet.{unused-zero}
use Rattle.promises.specs.NoFault.{◌and◌, neither, no_fault, not-below}

pub record Exact (words : List ℕ) (w n : ℕ) : Type 0 where
  -- exactly ceil(n/64) × w words
  pub all_words : length words ≡ ceil n 64 * w
  -- lanes past n are 0
  pub unused_clear : (i : ℕ) → n ≤ i → i < 64 * ceil n 64 → entry words w i ≡ 0

-- neither too few nor too many
as_many : {P : Type 0} (have want : ℕ) → want ≤ have and have ≤ want and P ↔ have ≡ want and P
as_many have want = (λ e. (omega arith, e.1.1), λ e. (omega arith, (omega arith, e.1)))

module _ (words : List ℕ) (w n : ℕ) where
  pub exact : length words ≡ page_words w n and unused words w n ≡ false ↔ Exact words w n
  exact = (
    λ good. record { all_words = good.0; unused_clear = λ i h t. unused-zero words w n i good.1 h t },
    λ good. (
      good.all_words,
      none_below (64 * ceil n 64 - n) (λ k. ltb 0 (entry words w (n + k)))
          (λ k t. let none : entry words w (n + k) ≡ 0 = good.unused_clear (n + k) (omega arith) (omega arith) in
          le-ltb 0 (entry words w (n + k)) (omega arith)),
    ),
  )

  -- 5, 6, 7
  pub column-exact : page_fault words w n ≡ 0 ↔ Exact words w n
  unfolding page_fault
  column-exact =
      Iff.trans
      (neither _ _ (not-below _ _ 5 (λ e. omega arith))
      (neither _ _ (not-below _ _ 6 (λ e. omega arith)) (no_fault _ 7 (λ e. omega arith))))
      (Iff.trans (as_many (length words) (page_words w n)) exact)
