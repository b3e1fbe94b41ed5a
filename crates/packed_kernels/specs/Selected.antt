-- Which entries of a page pass a test, as a bitmap.
use Rattle.std.specs.Prelude.{ℕ, Bool, List}
use Rattle.rules.specs.Bits.{entry}
use Rattle.rules.specs.Bits.Order.{low_first}
use Rattle.rules.specs.Bitmap.{bitmap}
use Rattle.compare.specs.Range.{ranged}

-- the page's first n entries, of width w
unfoldable pub selected : List ℕ → ℕ → ℕ → (ℕ → Bool) → List ℕ
selected page n w test = bitmap n (λ i. test (entry low_first page w i))

-- a range's test, from its three numbers
abbrev pub ranging : ℕ → ℕ → ℕ → ℕ → Bool
ranging low span flip = ranged (record { low = low; span = span; flip = flip })
