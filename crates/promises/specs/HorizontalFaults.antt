-- When a bare horizontal page has no fault, in plain conditions.
use Rattle.std.specs.Prelude.{◌≡◌, refl, Bool, true, false, List, ◌↔◌, ℕ, zero, suc, ◌+◌, ◌-◌, ◌*◌, ◌≤◌, ◌<◌, ltb, length}
use Rattle.std.proofs.Math.Logic.Iff
use Rattle.std.proofs.Common.{arith, ltb-true, ltb-false}
use Rattle.rules.specs.Bits.{ceil, bit_at, piece, field}
use Rattle.rules.specs.Bits.Order.{low_first}
use Rattle.rules.specs.Horizontal.{page_bytes, unused, page_fault}
use Rattle.promises.specs.NoFault.{◌and◌, neither, not-below}

pub record Exact (page : List ℕ) (w n : ℕ) : Type 0 where
  -- the input has exactly ceil(n × w / 8) bytes
  pub all_bytes : length page ≡ ceil (n * w) 8
  -- unused bits are 0: every bit behind the last entry
  pub unused_clear : (k : ℕ) → n * w ≤ k → k < 8 * length page → bit_at low_first 8 page k ≡ 0

-- bits that spell 0 are all 0, and the other way round
clear_bits : (l : List ℕ) (from m : ℕ) → field low_first l from m ≡ 0 → (k : ℕ) → from ≤ k → k < from + m
    → bit_at low_first 8 l k ≡ 0
unfolding piece
clear_bits l from zero none k h t = absurd (omega arith)
clear_bits l from (suc m) none k h t = go (clear_bits l (suc from) m (omega arith) k) (ltb from k) refl
  where
    go : (suc from ≤ k → k < suc from + m → bit_at low_first 8 l k ≡ 0) → (later : Bool) → ltb from k ≡ later
        → bit_at low_first 8 l k ≡ 0
    go ih true e = ih (ltb-true from k e) (omega arith)
    go ih false e = let first : k ≡ from = omega (arith, ltb-false from k e) in rw first (omega arith)

bits_clear : (l : List ℕ) (from m : ℕ) → ((k : ℕ) → from ≤ k → k < from + m → bit_at low_first 8 l k ≡ 0)
    → field low_first l from m ≡ 0
unfolding piece
bits_clear l from zero h = refl
bits_clear l from (suc m) h =
    omega (
      arith,
      h from (omega arith) (omega arith),
      bits_clear l (suc from) m (λ k a b. h k (omega arith) (omega arith)),
    )

-- neither too few nor too many
as_many : (have want spare : ℕ) → want ≤ have and have ≤ want and spare ≤ 0 ↔ have ≡ want and spare ≡ 0
as_many have want spare = (λ e. (omega arith, omega arith), λ e. (omega arith, (omega arith, omega arith)))

module _ (page : List ℕ) (w n : ℕ) where
  abbrev rest : ℕ
  rest = 8 * page_bytes w n - n * w

  -- they reach to the end of a page of the right length
  to_end : length page ≡ page_bytes w n → n * w + rest ≡ 8 * length page
  to_end size = omega arith

  pub exact : length page ≡ page_bytes w n and unused low_first page w n ≡ 0 ↔ Exact page w n
  exact = (
    λ good. record {
      all_bytes = good.0;
      unused_clear = λ k h t. clear_bits page (n * w) rest good.1 k h (rw (to_end good.0) t);
    },
    λ good. (
      good.all_bytes,
      bits_clear page (n * w) rest (λ k h t. good.unused_clear k h (rw (to_end good.all_bytes) at t)),
    ),
  )

  -- 5, 6, 7
  pub page-exact : page_fault low_first page w n ≡ 0 ↔ Exact page w n
  unfolding page_fault
  page-exact =
      Iff.trans
      (neither _ _ (not-below _ _ 5 (λ e. omega arith))
      (neither _ _ (not-below _ _ 6 (λ e. omega arith)) (not-below _ _ 7 (λ e. omega arith))))
      (Iff.trans (as_many (length page) (page_bytes w n) (unused low_first page w n)) exact)
