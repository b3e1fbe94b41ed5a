-- The signed entries of 32 bits that a band selects, as a range of raised ones.
use Rattle.std.specs.Prelude.{ℕ, suc, ◌+◌, ◌-◌, ◌/◌, ◌^◌, min, ℤ, pos, negsuc}
use Rattle.compare.specs.Range.{range_to}
use Rattle.compare.specs.declared.bands.Band.{Band}
use Rattle.compare.specs.declared.ranges.Range.{Range}

-- how many signed numbers of W bits are below z
unfoldable pub signed_cut : ℕ → ℤ → ℕ
signed_cut W (pos n) = 2 ^ W / 2 + min n (2 ^ W / 2)
signed_cut W (negsuc n) = 2 ^ W / 2 - suc n

-- and how many are at most z
unfoldable pub signed_next : ℕ → ℤ → ℕ
signed_next W (pos n) = 2 ^ W / 2 + min (n + 1) (2 ^ W / 2)
signed_next W (negsuc n) = 2 ^ W / 2 - n

unfoldable pub signed_range_of : Band → Range
signed_range_of band = range_to (signed_cut 32 band.low) (signed_next 32 band.high) band.outside
