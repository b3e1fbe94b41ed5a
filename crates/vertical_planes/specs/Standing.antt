-- How the lanes of a group stand to a band after some planes, what one plane more makes of that, and what a group's
-- comparison gives in the end.
use Rattle.std.specs.Prelude.{◌≡◌, Bool, true, not, ◌&&◌, ◌||◌, List, [], ◌∷◌, ℕ, ◌+◌, ◌≤◌, ◌<◌, eqb, pos, length}
use Rattle.std.specs.Int.Bits.{bit_and, bit_or, bit_xor}
use Rattle.rules.specs.Bits.{bit, word}
use Rattle.rules.specs.Planes.{undecided, some_undecided, planes_taken}
use Rattle.rules.specs.Vertical.{lane}
use Rattle.rules.specs.declared.Compared.{Compared}
use Rattle.compare.specs.Band.{banded}
use Rattle.compare.specs.declared.bands.Band.{Band}
use Rattle.vertical_planes.specs.Ends.{below, above, Masked}
use Rattle.vertical_planes.specs.declared.lanes.Lanes.{Lanes}

-- has lane j of a word a one
abbrev pub has : ℕ → ℕ → Bool
has x j = eqb (bit x j) 1

-- each undecided lane against its own end
unfoldable pub stepped : Lanes → ℕ → ℕ → ℕ → Lanes
stepped lanes plane low apart =
    let end : ℕ = bit_xor low (bit_and lanes.upper apart) in
    let decided : ℕ = bit_and lanes.undecided (bit_xor plane end) in
    record {
      undecided = bit_xor lanes.undecided decided;
      upper = lanes.upper;
      outside = bit_or lanes.outside (bit_and decided (bit_xor end lanes.upper));
      taken = lanes.taken + 1;
    }

-- one group by a band: the bits that it selects, and the planes taken against its two ends
abbrev pub band_compared : List ℕ → Band → Compared
band_compared planes band =
    record {
      bits = word 64 (λ j. banded band (pos (lane planes 0 (length planes) j)));
      taken = planes_taken planes (band.low ∷ band.high ∷ []);
    }

module _ (planes : List ℕ) (band : Band) (i : ℕ) where
  -- undecided against the low end, and against the high one; and known to be outside
  abbrev pub low_open : ℕ → Bool
  low_open = undecided planes (length planes) i band.low

  abbrev pub high_open : ℕ → Bool
  high_open = undecided planes (length planes) i band.high

  abbrev pub out : ℕ → Bool
  out j = below planes (length planes) i band.low j || above planes (length planes) i band.high j

  -- some lane is undecided against one of the ends
  abbrev pub some_open : Bool
  some_open = some_undecided planes (length planes) i (band.low ∷ band.high ∷ [])

-- the lanes are as the planes taken say, each undecided one stands to one end while planes are left, and before each
-- plane taken some lane was undecided
pub record Standing (planes : List ℕ) (band : Band) (lanes : Lanes) : Type 0 where
  pub few : lanes.taken ≤ length planes
  pub open_is : lanes.undecided
      ≡ word 64 (λ j. low_open planes band lanes.taken j || high_open planes band lanes.taken j)
  pub out_is : lanes.outside ≡ word 64 (out planes band lanes.taken)
  pub sided : lanes.taken < length planes → (j : ℕ) → j < 64
      → (low_open planes band lanes.taken j ≡ (has lanes.undecided j && not (has lanes.upper j)))
      × (high_open planes band lanes.taken j ≡ (has lanes.undecided j && has lanes.upper j))
  pub needed : (k : ℕ) → k < lanes.taken → some_open planes band k ≡ true

-- two ends within 0 to 2^w - 1 leave every lane undecided
abbrev pub Within : List ℕ → Band → Type 0
Within planes band = (low_open planes band 0 0 ≡ true) × (high_open planes band 0 0 ≡ true)

-- for every band that has these bits, with both ends within
abbrev pub StandsFor : List ℕ → List ℕ → List ℕ → Lanes → Type 0
StandsFor planes lows apart lanes =
    (band : Band) → Masked lows apart (length planes) band → Within planes band → Standing planes band lanes
