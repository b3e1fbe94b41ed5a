-- Wrapped deltas: place by place, signed numbers of W bits, their least; and that no packed number needs more than
-- W bits.
use Rattle.std.specs.Prelude.{◌≡◌, ℕ, zero, suc, ◌+◌, ◌-◌, ◌/◌, ◌^◌, ◌<◌, ◌≤◌, Bool, true, false, not, cond, ◌||◌, List, [], ◌∷◌, map, length, get_or, take, drop, ℤ, pos, ◌-ℤ◌, int_le, slice_index, slice_index_or, refl}
use Rattle.std.specs.Int.{int_min}
use Rattle.std.specs.List.{fold, range_with_len}
use Rattle.std.proofs.Math.Path.{ap}
use Rattle.std.proofs.Common.{sym, ap₂, ◌∙◌, pow-suc, add-one, arith, length-drop, pow_pos, length-take-le, drop-cons, get_or-take, get_or-drop}
use Rattle.rules.specs.Answer.{faulty}
use Rattle.rules.specs.Signed.{wrapped, Within, gap}
use Rattle.rules.specs.DeltaWriter.{deltas, least_from, least, above_least, any_wide, wide_fault}
use Rattle.words.specs.Joined.{Small}
use Rattle.packed_entries.specs.NoneTooLarge.{large_of}
use Rattle.signed.specs.Order.{le_z-refl, le_z_trans, le_z_total, not_le_z}
use Rattle.signed.specs.Remainders.{wrapped-within}
use Rattle.signed.specs.Gaps.{gap_lt}

-- ---- place by place

module _ (W : ℕ) where
  pub length-deltas : (xs : List ℤ) → length (deltas W xs) ≡ length xs - 1
  length-deltas [] = refl
  length-deltas (x ∷ []) = refl
  length-deltas (x ∷ y ∷ s) = ap suc (length-deltas (y ∷ s)) ∙ omega arith

  between : (xs : List ℤ) (i : ℕ) → suc i < length xs
      → slice_index_or (deltas W xs) i (pos 0) ≡ wrapped W (slice_index_or xs (suc i) (pos 0) -ℤ slice_index_or xs i (pos 0))
  between [] i h = absurd (omega arith)
  between (x ∷ []) i h = absurd (omega arith)
  between (x ∷ y ∷ s) zero h = refl
  between (x ∷ y ∷ s) (suc i) h = between (y ∷ s) i (omega arith)

  -- from each entry to the next
  pub get_or-deltas : (xs : List ℤ) (i : ℕ) → i + 1 < length xs
      → slice_index_or (deltas W xs) i (pos 0) ≡ wrapped W (slice_index_or xs (i + 1) (pos 0) -ℤ slice_index_or xs i (pos 0))
  get_or-deltas xs i h = rw add-one (between xs i (omega arith))

-- a part of some deltas, place by place
get_or-part : (zs : List ℤ) (from k i : ℕ) → i < k → slice_index_or (take k (drop from zs)) i (pos 0) ≡ slice_index_or zs (from + i) (pos 0)
get_or-part zs from k i h = get_or-take k (drop from zs) i (pos 0) h ∙ get_or-drop from zs i (pos 0)

length_part : (zs : List ℤ) (from k : ℕ) → from + k ≤ length zs → length (take k (drop from zs)) ≡ k
length_part zs from k h = length-take-le k (drop from zs) (rw length-drop (omega arith))

-- ---- signed numbers of W bits

-- every number of a list is one
abbrev pub AllWithin : ℕ → List ℤ → Type 0
AllWithin W zs = (i : ℕ) → Within W (slice_index_or zs i (pos 0))

module _ (W : ℕ) (some : 0 < W) where
  pub zero-within : Within W (pos 0)
  zero-within = go W some
    where
      go : (k : ℕ) → 0 < k → 0 < 2 ^ k / 2
      go zero h = absurd (omega arith)
      go (suc k) h = omega (arith, pow-suc 2 k, pow_pos k)

  pub deltas-within : (xs : List ℤ) → AllWithin W (deltas W xs)
  deltas-within [] i = zero-within
  deltas-within (x ∷ []) i = zero-within
  deltas-within (x ∷ y ∷ s) zero = wrapped-within W (y -ℤ x) some
  deltas-within (x ∷ y ∷ s) (suc i) = deltas-within (y ∷ s) i

  pub within-take : (n : ℕ) (zs : List ℤ) → AllWithin W zs → AllWithin W (take n zs)
  within-take zero zs h i = zero-within
  within-take (suc n) [] h i = zero-within
  within-take (suc n) (z ∷ zs) h zero = h 0
  within-take (suc n) (z ∷ zs) h (suc i) = within-take n zs (λ k. h (suc k)) i

  pub within-drop : (n : ℕ) (zs : List ℤ) → AllWithin W zs → AllWithin W (drop n zs)
  within-drop n zs h i = rw get_or-drop (h (n + i))

-- ---- the least

-- of two, as the least of more goes on
either : (P : ℤ → Type 0) (a b : ℤ) (t : Bool) → P a → P b → P (cond t a b)
either P a b true p q = p
either P a b false p q = q

least-below : (a b : ℤ) → (int_le (cond (int_le a b) a b) a ≡ true) × (int_le (cond (int_le a b) a b) b ≡ true)
least-below a b = go (int_le a b) refl
  where
    go : (t : Bool) → int_le a b ≡ t → (int_le (cond t a b) a ≡ true) × (int_le (cond t a b) b ≡ true)
    go true e = (le_z-refl a, e)
    go false e = (le_z_total a b e, le_z-refl b)

from_below : (z : ℤ) (zs : List ℤ) → int_le (least_from z zs) z ≡ true
from_below z [] = le_z-refl z
from_below z (d ∷ zs) =
    le_z_trans (least_from (cond (int_le z d) z d) zs) (cond (int_le z d) z d) z (from_below (cond (int_le z d) z d) zs)
    (least-below z d).0

from_each : (z : ℤ) (zs : List ℤ) (i : ℕ) → i < length zs → int_le (least_from z zs) (slice_index_or zs i (pos 0)) ≡ true
from_each z [] i h = absurd (omega arith)
from_each z (d ∷ zs) zero h =
    le_z_trans (least_from (cond (int_le z d) z d) zs) (cond (int_le z d) z d) d (from_below (cond (int_le z d) z d) zs)
    (least-below z d).1
from_each z (d ∷ zs) (suc i) h = from_each (cond (int_le z d) z d) zs i (omega arith)

-- it is at most each of them
pub least_each : (zs : List ℤ) (i : ℕ) → i < length zs → int_le (least zs) (slice_index_or zs i (pos 0)) ≡ true
least_each [] i h = absurd (omega arith)
least_each (z ∷ zs) zero h = from_below z zs
least_each (z ∷ zs) (suc i) h = from_each z zs i (omega arith)

-- the first, and how it goes on: the lesser of what was found and the next
pub least_first : (zs : List ℤ) (from k : ℕ) → from < length zs → 0 < k
    → least (take k (drop from zs)) ≡ least_from (slice_index_or zs from (pos 0)) (take (k - 1) (drop (from + 1) zs))
least_first zs from k h some =
    let e : k ≡ suc (k - 1) = omega arith in
    ap (λ (n : ℕ). least (take n (drop from zs))) e ∙ rw (drop-cons zs from (pos 0) h, add-one)

pub least_more : (zs : List ℤ) (z : ℤ) (i m : ℕ) → i < length zs → 0 < m
    → least_from z (take m (drop i zs))
    ≡ least_from (cond (int_le z (slice_index_or zs i (pos 0))) z (slice_index_or zs i (pos 0))) (take (m - 1) (drop (i + 1) zs))
least_more zs z i m h some =
    let e : m ≡ suc (m - 1) = omega arith in
    ap (λ (n : ℕ). least_from z (take n (drop i zs))) e ∙ rw (drop-cons zs i (pos 0) h, add-one)

-- the lesser, as the library's `min` takes it
int_min_lesser : (a b : ℤ) → int_min a b ≡ cond (int_le a b) a b
int_min_lesser a b = rw (not_le_z b a) (go (int_le a b))
  where
    go : (t : Bool) → cond (not t) b a ≡ cond t a b
    go true = refl
    go false = refl

pub least_min : (zs : List ℤ) (z : ℤ) (i m : ℕ) → i < length zs → 0 < m
    → least_from z (take m (drop i zs))
    ≡ least_from (int_min z (slice_index_or zs i (pos 0))) (take (m - 1) (drop (i + 1) zs))
least_min zs z i m h some =
    rw (int_min_lesser z (slice_index_or zs i (pos 0))) (least_more zs z i m h some)

pub least_fold : (zs : List ℤ) (from : ℕ) (z : ℤ) (i m : ℕ) → from + i + m ≤ length zs
    → fold (λ (least : ℤ) (j : ℕ). int_min least (slice_index_or zs (from + j) (pos 0))) z (range_with_len i m)
    ≡ least_from z (take m (drop (from + i) zs))
least_fold zs from z i zero h = refl
least_fold zs from z i (suc m) h =
    let one : from + i + 1 ≡ from + (i + 1) = omega arith in
    let sub : suc m - 1 ≡ m = omega arith in
    least_fold zs from (int_min z (slice_index_or zs (from + i) (pos 0))) (i + 1) m (omega arith)
    ∙ sym (rw (one, sub) at (least_min zs z (from + i) (suc m) (omega arith) (omega arith)))

module _ (W : ℕ) (some : 0 < W) where
  from-within : (z : ℤ) (zs : List ℤ) → Within W z → AllWithin W zs → Within W (least_from z zs)
  from-within z [] h all = h
  from-within z (d ∷ zs) h all =
      from-within (cond (int_le z d) z d) zs (either (Within W) z d (int_le z d) h (all 0)) (λ i. all (suc i))

  pub least-within : (zs : List ℤ) → AllWithin W zs → Within W (least zs)
  least-within [] all = zero-within W some
  least-within (z ∷ zs) all = from-within z zs (all 0) (λ i. all (suc i))

-- ---- the packed numbers

pub length_above : (zs : List ℤ) → length (above_least zs) ≡ length zs
length_above zs = go zs
  where
    go : (l : List ℤ) → length (map (λ d. gap d (least zs)) l) ≡ length l
    go [] = refl
    go (z ∷ l) = ap suc (go l)

pub get_or-above : (zs : List ℤ) (i : ℕ) → i < length zs → slice_index (above_least zs) i ≡ gap (slice_index_or zs i (pos 0)) (least zs)
get_or-above zs i h = go zs i h
  where
    go : (l : List ℤ) (i : ℕ) → i < length l
        → slice_index (map (λ d. gap d (least zs)) l) i ≡ gap (slice_index_or l i (pos 0)) (least zs)
    go [] i h = absurd (omega arith)
    go (z ∷ l) zero h = refl
    go (z ∷ l) (suc i) h = go l i (omega arith)

-- those of the k deltas from delta `from` on
module _ (zs : List ℤ) (from k : ℕ) (h : from + k ≤ length zs) where
  pub length_part_above : length (above_least (take k (drop from zs))) ≡ k
  length_part_above = length_above (take k (drop from zs)) ∙ length_part zs from k h

  module _ (i : ℕ) (l : i < k) where
    inside : i < length (take k (drop from zs))
    inside = rw (length_part zs from k h) l

    pub least_part : int_le (least (take k (drop from zs))) (slice_index_or zs (from + i) (pos 0)) ≡ true
    least_part = rw (get_or-part zs from k i l) at (least_each (take k (drop from zs)) i inside)

    pub get_or_part_above : get_or (above_least (take k (drop from zs))) i 0
        ≡ gap (slice_index_or zs (from + i) (pos 0)) (least (take k (drop from zs)))
    get_or_part_above =
        get_or-above (take k (drop from zs)) i inside
        ∙ ap (λ (z : ℤ). gap z (least (take k (drop from zs)))) (get_or-part zs from k i l)

module _ (W : ℕ) (some : 0 < W) where
  -- whatever the deltas, W bits hold them all
  pub above-small : (zs : List ℤ) → AllWithin W zs → Small W (above_least zs)
  above-small zs all = go zs all
    where
      go : (l : List ℤ) → AllWithin W l → Small W (map (λ d. gap d (least zs)) l)
      go [] h k = pow_pos W
      go (z ∷ l) h zero = gap_lt W z (least zs) (h 0) (least-within W some zs all)
      go (z ∷ l) h (suc k) = go l (λ i. h (suc i)) k

  never-wide : (turns : ℕ) (zs : List ℤ) → AllWithin W zs → any_wide W turns zs ≡ false
  never-wide zero zs h = refl
  never-wide (suc turns) [] h = refl
  never-wide (suc turns) (z ∷ zs) h =
      let block : List ℤ = take 128 (z ∷ zs) in
      ap₂ ◌||◌ (large_of W (above_least block) (above-small block (within-take W some 128 (z ∷ zs) h)))
      (never-wide turns (drop 128 (z ∷ zs)) (within-drop W some 128 (z ∷ zs) h))

  -- so 17 never arises
  pub no_wide_fault : (entries : List ℤ) → wide_fault W entries ≡ 0
  unfolding wide_fault
  no_wide_fault entries =
      ap (λ (t : Bool). faulty t 17) (never-wide (length entries) (deltas W entries) (deltas-within W some entries))
