-- The ends of a band: where the lanes stand to one by their planes so far, and its bits laid over all lanes.
use Rattle.std.specs.Prelude.{◌≡◌, Bool, cond, List, ℕ, ◌-◌, ◌^◌, ◌<◌, eqb, ℤ, pos, negsuc, get_or}
use Rattle.std.specs.Int.Bits.{bit_xor}
use Rattle.std.specs.Int.Signed.{lt_z, shr_z}
use Rattle.rules.specs.Bits.{bit}
use Rattle.rules.specs.Vertical.{lane}
use Rattle.compare.specs.declared.bands.Band.{Band}

-- after i of w planes: lane j's planes so far are below, or above, as many of the constant's highest bits
unfoldable pub below : List ℕ → ℕ → ℕ → ℤ → ℕ → Bool
below planes w i z j = lt_z (pos (lane planes 0 i j)) (shr_z z (2 ^ (w - i)))

unfoldable pub above : List ℕ → ℕ → ℕ → ℤ → ℕ → Bool
above planes w i z j = lt_z (shr_z z (2 ^ (w - i))) (pos (lane planes 0 i j))

-- the number whose bits are read; against a negative constant no lane is undecided, and 0 stands in for it
abbrev pub bits_of : ℤ → ℕ
bits_of (pos c) = c
bits_of (negsuc c) = 0

-- bit k of c in each of 64 lanes
unfoldable pub laid : ℕ → ℕ → ℕ
laid c k = cond (eqb (bit c k) 1) (2 ^ 64 - 1) 0

-- the first m of the w lowest bits of c laid out, the highest first
abbrev pub LaidOut : List ℕ → ℕ → ℕ → ℕ → Type 0
LaidOut masks w c m = (k : ℕ) → k < m → get_or masks k 0 ≡ laid c (w - 1 - k)

abbrev pub Spread : List ℕ → ℕ → ℕ → Type 0
Spread masks w c = LaidOut masks w c w

-- the low end's bits, and where the high end's are others
abbrev pub Masked : List ℕ → List ℕ → ℕ → Band → Type 0
Masked lows apart w band =
    Spread lows w (bits_of band.low) × Spread apart w (bit_xor (bits_of band.low) (bits_of band.high))

-- a word that has the same bit in all lanes
abbrev pub AllOrNone : ℕ → Type 0
AllOrNone x = (x ≡ 0 → ⊥) → x ≡ 2 ^ 64 - 1
