-- A page in two pieces, the second with zeros behind it.
use Rattle.std.specs.Prelude.{◌≡◌, refl, Bool, true, false, ltb, leb, length, get_or, replicate}
use Rattle.std.proofs.Common.{sym, ◌∙◌, add-mul, mul_assoc, zero-mul, mul-le-mul_right, div-add-mod', mod-lt, get_or-drop, get_or-append-add, ltb-true, ltb-false, leb-true, leb-false}
use Rattle.std.proofs.Math.Path.{ap}
use mathlib.Core.List.{List, ◌++◌}
use Prim.Native.Nat.{ℕ, zero, suc, ◌+◌, ◌-◌, ◌*◌, ◌/◌, ◌%◌, ◌≤◌, ◌<◌, min}
use native.Mathlib.Omega.{arith}
use Rattle.std.proofs.Math.ListN.{take, drop, get_or-append, get_or-eq_default}
use Rattle.rules.specs.Bits.{ceil, put, field}
use Rattle.rules.specs.Bits.Order.{low_first}
use Rattle.rules.specs.Bitmap.{bitmap}
use Rattle.words.specs.Puts.{part_put}
use Rattle.words.specs.Entries.{field-ext, field-drop}
use Rattle.bitmaps.specs.Bitmaps.{bitmap-ext, put-bitmap}
use Rattle.bitmaps.specs.Trimmed.{trimmed, trimmed-bitmap}
use Rattle.packed_kernels.specs.Selected.{selected}
use Rattle.packed_kernels.specs.GroupByGroup.{none-selected}

-- ---- zeros behind a page

abbrev pub zeros : ℕ → List ℕ
zeros z = replicate z 0

zeros_at : (z i : ℕ) → get_or (zeros z) i 0 ≡ 0
zeros_at zero i = refl
zeros_at (suc z) zero = refl
zeros_at (suc z) (suc i) = zeros_at z i

-- they change no byte of it: past the end every byte counts as 0
pub padded : (s : List ℕ) (z j : ℕ) → get_or (put (zeros z) 0 s) j 0 ≡ get_or s j 0
unfolding put
padded s z j = go (ltb j (length s)) refl
  where
    d : List ℕ
    d = drop (0 + length s) (zeros z)

    go : (t : Bool) → ltb j (length s) ≡ t → get_or (s ++ d) j 0 ≡ get_or s j 0
    go true e = get_or-append s d 0 j (ltb-true j (length s) e)
    go false e =
        let large : length s ≤ j = ltb-false j (length s) e in
        let place : j ≡ length s + (j - length s) = omega arith in
        ap (λ (i : ℕ). get_or (s ++ d) i 0) place ∙ get_or-append-add s d (j - length s) 0
        ∙ get_or-drop (0 + length s) (zeros z) (j - length s) 0 ∙ zeros_at z (0 + length s + (j - length s))
        ∙ sym (get_or-eq_default s 0 large)

pub selected-padded : (s : List ℕ) (z n w : ℕ) (test : ℕ → Bool)
    → selected (put (zeros z) 0 s) n w test ≡ selected s n w test
unfolding selected
selected-padded s z n w test = bitmap-ext n (λ i l. ap test (field-ext (put (zeros z) 0 s) s (padded s z) (i * w) w))

-- ---- two pieces

module _ (l page : List ℕ) (w : ℕ) (test : ℕ → Bool) where
  two-pieces : (m k : ℕ) → m + k ≤ length l
      → put (put l 0 (selected page (8 * m) w test)) m (selected (drop (m * w) page) (8 * k) w test)
      ≡ put l 0 (selected page (8 * (m + k)) w test)
  unfolding selected
  two-pieces m k h =
      let places : (j : ℕ) → 8 * (m * w) + j * w ≡ (8 * m + j) * w = λ j. rw (add-mul, mul_assoc) in
      let rest : selected (drop (m * w) page) (8 * k) w test
      ≡ bitmap (8 * k) (λ j. test (field low_first page ((8 * m + j) * w) w)) =
      bitmap-ext (8 * k)
      (λ j i. ap test (field-drop page (m * w) (j * w) w ∙ ap (λ (b : ℕ). field low_first page b w) (places j)))
      in
      ap (put (put l 0 (selected page (8 * m) w test)) m) rest
      ∙ put-bitmap l m (8 * k) (λ i. test (field low_first page (i * w) w)) (omega arith)
      ∙ ap (λ (n : ℕ). put l 0 (selected page n w test)) (omega arith)

  -- the front in place, the rest written to the part from m on, and the last byte trimmed
  pub all_selected : (front rest back : List ℕ) (n m q : ℕ) → q ≡ ceil n 8 → q ≤ length l → m ≤ q
      → front ≡ put l 0 (selected page (8 * m) w test)
      → rest ≡ put (take (length front - m) (drop m front)) 0 (selected (drop (m * w) page) (8 * (q - m)) w test)
      → back ≡ trimmed n (take m front ++ (rest ++ drop (length front - m) (drop m front)))
      → back ≡ put l 0 (selected page n w test)
  unfolding selected
  all_selected front rest back n m q eq h hm ef er eb =
      let v : List ℕ = selected (drop (m * w) page) (8 * (q - m)) w test in
      let whole : m + (q - m) ≡ q = omega arith in
      let written : take m front ++ (rest ++ drop (length front - m) (drop m front))
      ≡ put l 0 (selected page (8 * q) w test) =
      part_put front rest v m er
      ∙ ap (λ (y : List ℕ). put y m v) ef
      ∙ two-pieces m (q - m) (omega arith)
      ∙ ap (λ (k : ℕ). put l 0 (selected page (8 * k) w test)) whole in
      eb ∙ ap (trimmed n) written ∙ trimmed-bitmap l n q (λ i. test (field low_first page (i * w) w)) eq h

  -- no group's windows end within the page
  pub none-front : (q : ℕ) → length page ≤ 8
      → ((0 * w ≤ length page) × (length page ≤ 0 * w + w + 8) × (0 ≤ q))
      × (l ≡ put l 0 (selected page (8 * 0) w test))
  none-front q h = (omega (arith, zero-mul w), none-selected l page w test)

-- ---- sizes: n entries are q groups, the last of them not whole, and at most 8 bytes follow them

module _ (n w q len : ℕ) (eq : q ≡ ceil n 8) (all : ceil (n * w) 8 ≤ len) (few : len ≤ ceil (n * w) 8 + 8) where
  pub page_le : len ≤ q * w + 8
  page_le = omega (arith, mul-le-mul_right w up, mul_assoc 8 q w)
    where
      up : n ≤ 8 * q
      up = omega arith

  groups_le : 8 * (q * w) ≤ 8 * len + 7 * w
  groups_le = omega (arith, mul-le-mul_right w down, mul_assoc 8 q w, add-mul n 7 w)
    where
      down : 8 * q ≤ n + 7
      down = omega arith

  -- what the last groups need
  pub tail_small : (m : ℕ) → w ≤ 32 → m ≤ q → len ≤ m * w + w + 8 → (q - m) * w ≤ 72
  tail_small m hw hm h =
      let whole : q - m + m ≡ q = omega arith in
      omega (arith, groups_le, add-mul (q - m) m w, ap (λ (k : ℕ). k * w) whole)

-- how far the windows of m groups reach, m the lesser of q and as many as there is room for
pub front-size : (len w q : ℕ) → 0 < w → 8 ≤ len → len ≤ q * w + 8
    → let m = min ((len - 8) / w) q in (m * w + 8 ≤ len) × (len ≤ m * w + w + 8) × (m ≤ q)
front-size len w q some h l = go (leb ((len - 8) / w) q) refl
  where
    parts : (len - 8) / w * w + (len - 8) % w ≡ len - 8
    parts = div-add-mod' (len - 8) w

    go : (t : Bool) → leb ((len - 8) / w) q ≡ t
        → let m = min ((len - 8) / w) q in (m * w + 8 ≤ len) × (len ≤ m * w + w + 8) × (m ≤ q)
    go true e =
        let few : (len - 8) / w ≤ q = leb-true ((len - 8) / w) q e in
        let least : min ((len - 8) / w) q ≡ (len - 8) / w = omega arith in
        rw least (omega (arith, parts, mod-lt (len - 8) some), omega (arith, parts, mod-lt (len - 8) some), few)
    go false e =
        let many : q ≤ (len - 8) / w = omega (arith, leb-false ((len - 8) / w) q e) in
        let least : min ((len - 8) / w) q ≡ q = omega arith in
        rw least (omega (arith, parts, mul-le-mul_right w many), omega arith, omega arith)
