-- Signed numbers of W bits: zigzag, wrapping, and how far one is above another. Over the width W of the kind: 32,
-- and later 64.
use Rattle.std.specs.Prelude.{cond, ℕ, suc, ◌+◌, ◌-◌, ◌*◌, ◌/◌, ◌%◌, ◌^◌, ◌<◌, ltb, eqb, ℤ, pos, negsuc}
use Rattle.std.specs.Int.Signed.{mag}

-- even 2k is k, odd 2k + 1 is -k - 1
unfoldable pub zigzag : ℕ → ℤ
zigzag h = cond (eqb (h % 2) 0) (pos (h / 2)) (negsuc (h / 2))

-- and the other way round
unfoldable pub zigzag_of : ℤ → ℕ
zigzag_of (pos k) = 2 * k
zigzag_of (negsuc k) = 2 * k + 1

-- z modulo 2^W: its W low bits in two's complement (negsuc k is -k - 1)
unfoldable pub modulo : ℕ → ℤ → ℕ
modulo W (pos k) = k % 2 ^ W
modulo W (negsuc k) = 2 ^ W - suc (k % 2 ^ W)

-- the signed number of W bits whose two's complement is m
unfoldable pub signed : ℕ → ℕ → ℤ
signed W m = cond (ltb m (2 ^ W / 2)) (pos m) (negsuc (2 ^ W - suc m))

-- z, wrapping in W bits
abbrev pub wrapped : ℕ → ℤ → ℤ
wrapped W z = signed W (modulo W z)

-- z is a signed number of W bits
abbrev pub Within : ℕ → ℤ → Type 0
Within W z = mag z < 2 ^ W / 2

-- how far z is above l, where it is not below it
unfoldable pub gap : ℤ → ℤ → ℕ
gap (pos a) (pos b) = a - b
gap (pos a) (negsuc b) = a + suc b
gap (negsuc a) (pos b) = 0
gap (negsuc a) (negsuc b) = b - a
