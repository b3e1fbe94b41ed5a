-- Where a whole number belongs among the values of a dictionary, and the range of indexes that a band selects.
use Rattle.std.specs.Prelude.{◌≡◌, refl, Bool, not, List, [], ℕ, zero, suc, ◌+◌, ◌*◌, ◌≤◌, ◌<◌, ltb, ℤ, length, take, drop, get_or}
use Rattle.std.proofs.Common.{sym, ap, ◌∙◌, true≢false, arith, drop-drop, ltb-true, ltb-false}
use Rattle.std.proofs.lemmas.Bool.{lt-ltb}
use Rattle.std.proofs.lemmas.List.{take-take}
use Rattle.std.specs.Simd.{first_chunks}
use Rattle.std.specs.List.Sorted.{IsPartitionedBy, IsPartitionPoint}
use Rattle.std.proofs.Math.Bool.{true, false}
use Rattle.std.specs.Int.Signed.{lt_z, le_z}
use Rattle.std.proofs.lemmas.Bool.{not-true}
use Rattle.rules.specs.Bits.{number}
use Rattle.rules.specs.Bitmap.{tally}
use Rattle.rules.specs.Signed.{signed}
use Rattle.rules.specs.Dictionary.{value, count, dictionary_fault}
use Rattle.signed.specs.Order.{not_le_z, le_z_trans}
use Rattle.bitmaps.specs.Counts.{tally_le, tally-first}
use Rattle.compare.specs.Band.{banded}
use Rattle.compare.specs.Range.{ranged, range_to}
use Rattle.compare.specs.Ranges.{Whole, to_whole, ranged-ends}
use Rattle.compare.specs.declared.bands.Band.{Band}
use Rattle.compare.specs.declared.ranges.Range.{Range}
use Rattle.dictionary_scan.specs.Values.{good-dictionary, ascends}

-- is x below z, or where equal counts too at most z
abbrev pub precedes : Bool → ℤ → ℤ → Bool
precedes true z x = le_z x z
precedes false z x = lt_z x z

-- how many values of a dictionary are
unfoldable pub place_of : Bool → List ℕ → ℤ → ℕ
place_of equal dict z = tally (count dict) (λ k. precedes equal z (value dict k))

-- the indexes from the first value that is not below the band's low end, up to those at most its high end
unfoldable pub index_range : List ℕ → Band → Range
index_range dict band = range_to (place_of false dict band.low) (place_of true dict band.high) band.outside

-- ---- the laws

-- what is before one that precedes z precedes it
precedes_down : (equal : Bool) (x y z : ℤ) → le_z x y ≡ true → precedes equal z y ≡ true → precedes equal z x ≡ true
precedes_down true x y z l e = le_z_trans x y z l e
precedes_down false x y z l e = not_le_z x z ∙ ap not (go (le_z z x) refl)
  where
    go : (t : Bool) → le_z z x ≡ t → le_z z x ≡ false
    go true f = absurd (true≢false (sym (le_z_trans z x y f l) ∙ not-true _ (sym (not_le_z y z) ∙ e)))
    go false f = f

pub place-within : (equal : Bool) (dict : List ℕ) (z : ℤ) → place_of equal dict z ≤ count dict
unfolding place_of
place-within equal dict z = tally_le (count dict) (λ k. precedes equal z (value dict k))

-- chunk k of the bytes, and the value in it
get_or-chunks : (n k : ℕ) (dict d : List ℕ) → k < n → get_or (first_chunks 4 n dict) k d ≡ take 4 (drop (4 * k) dict)
get_or-chunks zero k dict d h = absurd (omega arith)
get_or-chunks (suc n) zero dict d h = refl
get_or-chunks (suc n) (suc k) dict d h =
    let place : 4 + 4 * k ≡ 4 * suc k = omega arith in
    get_or-chunks n k (drop 4 dict) d (omega arith)
    ∙ ap (take 4) (drop-drop (4 * k) 4 dict ∙ ap (λ (i : ℕ). drop i dict) place)

pub length-chunks : (n : ℕ) (dict : List ℕ) → length (first_chunks 4 n dict) ≡ n
length-chunks zero dict = refl
length-chunks (suc n) dict = omega (arith, length-chunks n (drop 4 dict))

value-alone : (dict : List ℕ) (k : ℕ) → value (take 4 (drop (4 * k) dict)) 0 ≡ value dict k
unfolding value
value-alone dict k = ap (λ (l : List ℕ). signed 32 (number l)) (take-take 4 4 (drop (4 * k) dict) (omega arith))

module _ (dict : List ℕ) (good : dictionary_fault dict ≡ 0) where
  -- the values that precede z are the first ones
  pub precedes-place : (equal : Bool) (z : ℤ) (k : ℕ) → k < count dict
      → ltb k (place_of equal dict z) ≡ precedes equal z (value dict k)
  unfolding place_of
  precedes-place equal z k h =
      tally-first (count dict) (λ i. precedes equal z (value dict i))
      (λ i j l m e. precedes_down equal (value dict i) (value dict j) z
      (ascends dict (good-dictionary dict good).ordered i j (omega arith) m) e)
      k h

  -- the values as chunks of four bytes
  pub chunk-precedes : (equal : Bool) (z : ℤ) (k : ℕ) (d : List ℕ) → k < count dict
      → precedes equal z (value (get_or (first_chunks 4 (count dict) dict) k d) 0) ≡ ltb k (place_of equal dict z)
  chunk-precedes equal z k d h =
      ap (λ (l : List ℕ). precedes equal z (value l 0)) (get_or-chunks (count dict) k dict d h)
      ∙ ap (precedes equal z) (value-alone dict k) ∙ sym (precedes-place equal z k h)

  pub chunks-parted : (equal : Bool) (z : ℤ)
      → IsPartitionedBy (λ (l : List ℕ). precedes equal z (value l 0)) (first_chunks 4 (count dict) dict)
  chunks-parted equal z i j d le h e =
      let size = length-chunks (count dict) dict in
      let later = ltb-true j (place_of equal dict z) (sym (chunk-precedes equal z j d (omega arith)) ∙ e) in
      chunk-precedes equal z i d (omega arith) ∙ lt-ltb i (place_of equal dict z) (omega arith)

  pub place-found : (equal : Bool) (z : ℤ) (i : ℕ) → i ≤ count dict
      → IsPartitionPoint (λ (l : List ℕ). precedes equal z (value l 0) ≡ true)
      (λ (l : List ℕ). precedes equal z (value l 0) ≡ false) (first_chunks 4 (count dict) dict) i
      → i ≡ place_of equal dict z
  place-found equal z i few point =
      let p : ℕ = place_of equal dict z in
      let within = place-within equal dict z in
      let size = length-chunks (count dict) dict in
      let low : p < i → p < p =
      λ h. ltb-true p p (sym (chunk-precedes equal z p [] (omega arith)) ∙ point.0 p [] (omega arith) h) in
      let high : i < p → p ≤ i =
      λ h. ltb-false i p
      (sym (chunk-precedes equal z i [] (omega arith)) ∙ point.1 i [] (omega arith) (omega arith)) in
      grind (arith, low, high)

  pub place_le : (equal : Bool) (z : ℤ) → place_of equal dict z ≤ 16384
  place_le equal z = omega (arith, place-within equal dict z, (good-dictionary dict good).short)

  pub index_whole : (band : Band) → Whole (index_range dict band)
  unfolding index_range
  index_whole band = to_whole _ _ band.outside (omega (arith, place_le true band.high))

  -- an index is selected where its value is
  pub ranged_index : (band : Band) (k : ℕ) → k < count dict
      → ranged (index_range dict band) k ≡ banded band (value dict k)
  unfolding index_range
  ranged_index band k h =
      ranged-ends band (place_of false dict band.low) (place_of true dict band.high) k (value dict k)
      (omega (arith, (good-dictionary dict good).short))
      (sym (precedes-place false band.low k h)) (sym (precedes-place true band.high k h))
