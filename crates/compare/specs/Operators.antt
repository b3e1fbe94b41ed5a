-- The operators as bands: which numbers have one, and that a band selects what its operator does.
use Rattle.std.specs.Prelude.{◌≡◌, ℕ, zero, suc, ◌<◌, ◌≤◌, Bool, true, false, List, [], ◌∷◌, map, length, get_or, ℤ, pos, negsuc, ◌≢◌, int_le, nat_lt, slice_index_or, refl, Option, Some, None}
use Rattle.std.proofs.Common.{sym, ap, ◌∙◌, zero-le, suc-le-suc, arith, lt-ltb, le-ltb, le-leb}
use Rattle.std.proofs.Math.Bool.{and-true}
use Rattle.rules.specs.Comparison.{between, operators, holds}
use Rattle.rules.specs.Signed.{Within}
use Rattle.signed.specs.Order.{not_le_z}
use Rattle.compare.specs.Band.{banded, least, greatest, bands, band_of}
use Rattle.compare.specs.declared.bands.Band.{Band}

-- ---- a table of bands

no_band : (band : Band) → None ≢ Some band
no_band band e = let z : ◌≡◌ {A = ℕ} 0 1 = cc in omega arith

-- past its end, and nowhere else, the table has no band
past_table : (l : List Band) (op : ℕ) → slice_index_or (map Some l) op None ≡ None → length l ≤ op
past_table [] op e = zero-le
past_table (band ∷ l) zero e = absurd (no_band band (sym e))
past_table (band ∷ l) (suc op) e = suc-le-suc (past_table l op e)

in_table : (l : List Band) (op : ℕ) (band : Band) → slice_index_or (map Some l) op None ≡ Some band → op < length l
in_table [] op band e = absurd (no_band band e)
in_table (row ∷ l) zero band e = suc-le-suc zero-le
in_table (row ∷ l) (suc op) band e = suc-le-suc (in_table l op band e)

-- what a test says of a row's band stands in the same row of its answers
pub same_row : (test : Band → Bool) (l : List Band) (op : ℕ) (band : Band)
    → slice_index_or (map Some l) op None ≡ Some band → slice_index_or (map test l) op false ≡ test band
same_row test [] op band e = absurd (no_band band e)
same_row test (row ∷ l) zero band e = ap test (cc)
same_row test (row ∷ l) (suc op) band e = same_row test l op band e

-- ---- the operators

-- an operator number that comes to a band
pub record Known (op : ℕ) (a b : ℤ) : Type 0 where
  pub band : Band
  pub known : band_of op a b ≡ Some band

known : (c : Option Band) → (c ≢ None) → (op : ℕ) (a b : ℤ) → band_of op a b ≡ c → Known op a b
known (Some band) h op a b e = record { band = band; known = e }
known None h op a b e = absurd (h refl)

pub unknown_band : (op : ℕ) (a b : ℤ) → band_of op a b ≡ None → nat_lt 7 op ≡ true
unfolding band_of bands
unknown_band op a b e = lt-ltb 7 op (past_table (bands a b) op e)

pub band-known : (op : ℕ) (a b : ℤ) (band : Band) → band_of op a b ≡ Some band → nat_lt 7 op ≡ false
unfolding band_of bands
band-known op a b band e = le-ltb 7 op (omega (arith, in_table (bands a b) op band e))

-- the constants' 64 bits hold every x of 64 bits
least_le : (x : ℤ) → Within 64 x → int_le least x ≡ true
least_le (pos n) h = refl
least_le (negsuc n) h = le-leb n 9223372036854775807 (omega arith)

le_greatest : (x : ℤ) → Within 64 x → int_le x greatest ≡ true
le_greatest (pos n) h = le-leb n 9223372036854775807 (omega arith)
le_greatest (negsuc n) h = refl

-- and the operators' tests of it are their bands'
operators-banded : (a b x : ℤ) → Within 64 x → map (λ band. banded band x) (bands a b) ≡ operators a b x
unfolding operators bands banded between
operators-banded a b x h = rw (least_le x h, le_greatest x h, and-true (int_le a x), not_le_z x a, not_le_z a x)

pub holds-band : (op : ℕ) (a b x : ℤ) (band : Band) → Within 64 x → band_of op a b ≡ Some band
    → banded band x ≡ holds op a b x
unfolding band_of holds
holds-band op a b x band h e =
    sym (same_row (λ band. banded band x) (bands a b) op band e)
    ∙ ap (λ (rows : List Bool). get_or rows op false) (operators-banded a b x h)
