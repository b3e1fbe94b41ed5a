-- The entries below 2^32 that a band selects, as a range of them.
use Rattle.std.specs.Prelude.{◌≡◌, ℕ, ◌+◌, ◌-◌, ◌%◌, ◌<◌, min, Bool, true, false, cond, not, ◌&&◌, ℤ, pos, negsuc, nat_le, nat_lt}
use Rattle.compare.specs.Band.{turned}
use Rattle.compare.specs.declared.bands.Band.{Band}
use Rattle.compare.specs.declared.ranges.Range.{Range}

-- from lo to hi with both ends
unfoldable pub inside : ℕ → ℕ → ℕ → Bool
inside lo hi x = nat_le lo x && nat_le x hi

-- what is asked of a range before entries are tested by it: it ends below 2^32
abbrev pub Bounded : ℕ → ℕ → Type 0
Bounded low span = low + span < 4294967296

-- the byte that turns eight tests: all of them or none
abbrev pub Flips : ℕ → Type 0
Flips flip = flip % 255 ≡ 0

-- both
abbrev pub Usable : ℕ → ℕ → ℕ → Type 0
Usable low span flip = Bounded low span × Flips flip

abbrev pub BoundedRange : Range → Type 0
BoundedRange r = Bounded r.low r.span

abbrev pub UsableRange : Range → Type 0
UsableRange r = Usable r.low r.span r.flip

-- does a range select the entry x
unfoldable pub ranged : Range → ℕ → Bool
ranged r x = turned (nat_lt 0 r.flip) (inside r.low (r.low + r.span) x)

-- how many of the numbers below 2^32 are below z
abbrev pub cut_of : ℤ → ℕ
cut_of (pos n) = min n 4294967296
cut_of (negsuc n) = 0

-- and how many are at most z
abbrev pub next_of : ℤ → ℕ
next_of (pos n) = min (n + 1) 4294967296
next_of (negsuc n) = 0

abbrev pub flip_of : Bool → ℕ
flip_of true = 255
flip_of false = 0

abbrev pub range : ℕ → ℕ → Bool → Range
range low span outside = record { low = low; span = span; flip = flip_of outside }

-- the entries from `from` on and below `to`; where there are none, the whole column with the flip turned
unfoldable pub range_to : ℕ → ℕ → Bool → Range
range_to from to outside =
    cond (nat_lt from to) (range from (to - from - 1) outside) (range 0 4294967295 (not outside))

unfoldable pub range_of : Band → Range
range_of band = range_to (cut_of band.low) (next_of band.high) band.outside
