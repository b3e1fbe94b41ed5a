-- A band of whole numbers, and the bands of the operators.
use Rattle.std.specs.Prelude.{ℕ, Bool, true, false, not, List, [], ◌∷◌, map, ℤ, pos, negsuc, slice_index_or, Option, Some, None}
use Rattle.rules.specs.Comparison.{between}
use Rattle.compare.specs.declared.bands.Band.{Band}

-- the second, or where the first holds its negation
abbrev pub turned : Bool → Bool → Bool
turned true t = not t
turned false t = t

-- does a band select x
unfoldable pub banded : Band → ℤ → Bool
banded band x = turned band.outside (between band.low band.high x)

-- the ends of the constants' 64 bits
abbrev pub least : ℤ
least = negsuc 9223372036854775807

abbrev pub greatest : ℤ
greatest = pos 9223372036854775807

abbrev pub band : ℤ → ℤ → Bool → Band
band low high outside = record { low = low; high = high; outside = outside }

-- the bands of the operators 0 to 7
unfoldable pub bands : ℤ → ℤ → List Band
bands a b =
    band a a false
    ∷ band a a true
    ∷ band a greatest true
    ∷ band least a false
    ∷ band least a true
    ∷ band a greatest false
    ∷ band a b false
    ∷ band a b true
    ∷ []

unfoldable pub band_of : ℕ → ℤ → ℤ → Option Band
band_of op a b = slice_index_or (map Some (bands a b)) op None
