-- A band's range of signed entries: it lies below 2^32, its flip is 0 or 255, and it selects the raised entries
-- that the band does.
use Rattle.std.specs.Prelude.{◌≡◌, ℤ}
use Rattle.rules.specs.Signed.{Within}
use Rattle.signed.specs.Raised.{raised, raised_lt}
use Rattle.compare.specs.Band.{banded}
use Rattle.compare.specs.Range.{ranged}
use Rattle.compare.specs.Ranges.{Whole, to_whole, ranged-ends}
use Rattle.compare.specs.SignedRange.{signed_cut, signed_next, signed_range_of}
use Rattle.compare.specs.SignedCuts.{signed-next_le, below-signed-cut, below-signed-next}
use Rattle.compare.specs.declared.bands.Band.{Band}

pub signed-range-whole : (band : Band) → Whole (signed_range_of band)
unfolding signed_range_of
signed-range-whole band =
    to_whole (signed_cut 32 band.low) (signed_next 32 band.high) band.outside (signed-next_le 32 band.high)

pub signed-ranged-band : (band : Band) (z : ℤ) → Within 32 z
    → ranged (signed_range_of band) (raised 32 z) ≡ banded band z
unfolding signed_range_of
signed-ranged-band band z h =
    ranged-ends band (signed_cut 32 band.low) (signed_next 32 band.high) (raised 32 z) z (raised_lt 32 z)
    (below-signed-cut 32 z band.low h) (below-signed-next 32 z band.high h)
