-- A band's range: it lies below 2^32, its flip is 0 or 255, and it selects the entries that the band does.
use Rattle.std.specs.Prelude.{◌≡◌, ℕ, ◌+◌, ◌-◌, ◌%◌, ◌<◌, ◌≤◌, Bool, true, false, not, ◌&&◌, ℤ, pos, negsuc, int_le, int_lt, nat_lt}
use Rattle.std.proofs.Math.Path.{refl}
use Rattle.std.proofs.Common.{sym, ap, ap₂, ◌∙◌, arith}
use borrow.Author.Tests.{lt-ltb, le-ltb, ltb-true, ltb-false}
use Rattle.rules.specs.Comparison.{between}
use Rattle.signed.specs.Order.{not_lt_z, same-ltb}
use Rattle.compare.specs.Band.{turned, banded}
use Rattle.compare.specs.Range.{inside, UsableRange, ranged, cut_of, next_of, flip_of, range_to, range_of}
use Rattle.compare.specs.Cuts.{next_le, below_next}
use Rattle.compare.specs.Inside.{inside-true, Place, place}
use Rattle.compare.specs.Inside.Place.{low, high, within}
use Rattle.compare.specs.declared.bands.Band.{Band}
use Rattle.compare.specs.declared.ranges.Range.{Range}

flip_whole : (outside : Bool) → (flip_of outside % 255 ≡ 0) × (flip_of outside < 256)
flip_whole true = omega arith
flip_whole false = omega arith

flip_turns : (outside : Bool) → nat_lt 0 (flip_of outside) ≡ outside
flip_turns true = refl
flip_turns false = refl

-- everything turned is nothing, and nothing turned everything
turned_all : (outside : Bool) → turned (not outside) true ≡ turned outside false
turned_all true = refl
turned_all false = refl

-- ---- the entries from `from` on and below `to`

-- a range lies below 2^32 and its flip is 0 or 255
pub record Whole (r : Range) : Type 0 where
  pub fits : r.low + r.span < 4294967296
  pub flips : r.flip % 255 ≡ 0
  pub small : r.flip < 256

pub usable : {r : Range} → Whole r → UsableRange r
usable w = (w.fits, w.flips)

module _ (from to : ℕ) (outside : Bool) where
  pub to_whole : to ≤ 4294967296 → Whole (range_to from to outside)
  unfolding range_to
  to_whole h = go (nat_lt from to) refl
    where
      go : (t : Bool) → nat_lt from to ≡ t → Whole (range_to from to outside)
      go true e =
          rw e
          record {
            fits = omega (arith, ltb-true from to e);
            flips = (flip_whole outside).0;
            small = (flip_whole outside
                ).1;
          }
      go false e =
          rw e
          record { fits = omega arith; flips = (flip_whole (not outside)).0; small = (flip_whole (not outside)).1 }

  module _ (x : ℕ) (h : x < 4294967296) where
    some-inside : from < to → inside from (from + (to - from - 1)) x ≡ (not (nat_lt x from) && nat_lt x to)
    some-inside some = go (place from (from + (to - from - 1)) x)
      where
        go : Place from (from + (to - from - 1)) x
            → inside from (from + (to - from - 1)) x ≡ (not (nat_lt x from) && nat_lt x to)
        go (low l k) = rw (k, lt-ltb x from l)
        go (high l k) = rw (k, le-ltb x from (omega arith), le-ltb x to (omega arith))
        go (within l m k) = rw (k, le-ltb x from l, lt-ltb x to (omega arith))

    none_inside : to ≤ from → (not (nat_lt x from) && nat_lt x to) ≡ false
    none_inside none = go (nat_lt x from) refl
      where
        go : (t : Bool) → nat_lt x from ≡ t → (not (nat_lt x from) && nat_lt x to) ≡ false
        go true e = rw e
        go false e = rw (e, le-ltb x to (omega (arith, ltb-false x from e)))

    pub ranged_to : ranged (range_to from to outside) x ≡ turned outside (not (nat_lt x from) && nat_lt x to)
    unfolding ranged range_to
    ranged_to = go (nat_lt from to) refl
      where
        go : (t : Bool) → nat_lt from to ≡ t
            → ranged (range_to from to outside) x ≡ turned outside (not (nat_lt x from) && nat_lt x to)
        go true e = rw e (ap₂ turned (flip_turns outside) (some-inside (ltb-true from to e)))
        go false e =
            rw (
              e,
              flip_turns (not outside),
              inside-true 0 4294967295 x (omega arith) (omega arith),
              none_inside (ltb-false from to e),
            )
            (turned_all outside)

-- where the ends are the band's for z, kept as x
pub ranged-ends : (band : Band) (from to x : ℕ) (z : ℤ) → x < 4294967296 → int_lt z band.low ≡ nat_lt x from
    → int_le z band.high ≡ nat_lt x to
    → ranged (range_to from to band.outside) x ≡ banded band z
unfolding banded between
ranged-ends band from to x z h below most =
    ranged_to from to band.outside x h
    ∙ ap (turned band.outside) (sym (ap₂ ◌&&◌ (not_lt_z band.low z ∙ ap not below) most))

-- ---- the range of a band

range-whole : (band : Band) → Whole (range_of band)
unfolding range_of
range-whole band = to_whole (cut_of band.low) (next_of band.high) band.outside (next_le band.high)

pub range-usable : (band : Band) → UsableRange (range_of band)
range-usable band = usable (range-whole band)

pub ranged-band : (band : Band) (x : ℕ) → x < 4294967296 → ranged (range_of band) x ≡ banded band (pos x)
unfolding range_of
ranged-band band x h =
    ranged-ends band (cut_of band.low) (next_of band.high) x (pos x) h (below band.low) (below_next x band.high h)
  where
    -- by itself, so that a wrong `cut_of` is refused here as at the law `below-cut`
    below : (z : ℤ) → int_lt (pos x) z ≡ nat_lt x (cut_of z)
    below (pos n) = sym (same-ltb x n x (cut_of (pos n)) (λ l. omega arith) (λ l. omega arith))
    below (negsuc n) = sym (le-ltb x 0 (omega arith))
