-- What a header that was read says: its shape is good, its first value has W bits, and it ends on the page.
use Rattle.std.specs.Prelude.{◌≡◌, true, List, ℕ, ◌^◌, ◌<◌, ◌≤◌, eqb, length}
use Rattle.std.proofs.Common.{subst, arith}
use Rattle.rules.specs.Varint.{number_at}
use Rattle.rules.specs.Delta.{shaped, head_at}
use Rattle.rules.specs.Delta.{Head}
use Rattle.rules.specs.Delta.Head.{Opened, Unopened}
use Rattle.words.specs.Tests.{either}
use Rattle.varints.specs.Places.{next-within}
use Rattle.varints.specs.Fields.{by_field}

pub data Opens (W : ℕ) (page : List ℕ) : Head → Type 0 where
  unopened : (code : ℕ) → 0 < code → Opens W page (Unopened code)
  opens : (size minis first next : ℕ) → shaped size minis ≡ true → first < 2 ^ W → next ≤ length page
      → Opens W page (Opened size minis first next)

module _ (W n : ℕ) (page : List ℕ) where
  pub head-opens : Opens W page (head_at W n page)
  unfolding head_at
  head-opens =
      let O : Head → Type 0 = Opens W page in
      let five : O (Unopened 5) = unopened 5 (omega arith) in
      let nine : O (Unopened 9) = unopened 9 (omega arith) in
      by_field Unopened _ O (number_at 32 page 0) five nine (λ size p _.
      by_field Unopened _ O (number_at 32 page p) five nine (λ minis q _.
      by_field Unopened _ O (number_at 32 page q) five nine (λ count r _.
      by_field Unopened _ O (number_at W page r) five nine (λ first next e.
      either O (shaped size minis)
      (λ good. either O (eqb count n)
      (λ _. let w = next-within W page r first next e in opens size minis first next good w.1 w.0)
      (λ _. unopened 13 (omega arith)))
      (λ _. unopened 12 (omega arith))))))

  pub head-shaped : {size minis first next : ℕ} → head_at W n page ≡ Opened size minis first next
      → shaped size minis ≡ true
  head-shaped e = go (subst (Opens W page) e head-opens)
    where
      go : {size minis first next : ℕ} → Opens W page (Opened size minis first next) → shaped size minis ≡ true
      go (opens size minis first next good small within) = good

  pub head-places : {size minis first next : ℕ} → head_at W n page ≡ Opened size minis first next
      → (first < 2 ^ W) × (next ≤ length page)
  head-places e = go (subst (Opens W page) e head-opens)
    where
      go : {size minis first next : ℕ} → Opens W page (Opened size minis first next)
          → (first < 2 ^ W) × (next ≤ length page)
      go (opens size minis first next good small within) = (small, within)
