-- What the two operations of spans do not read; and what there is to a bitmap made anew from its bits. What they are kept
-- to, and that they undo each other, stands in proofs/Spans.
use Rattle.std.specs.Prelude.{◌≡◌, refl, Bool, true, false, ◌&&◌, List, ℕ, zero, suc, ◌+◌, ◌-◌, ◌*◌, ◌≤◌, ◌<◌, ltb, eqb, length, take}
use Rattle.std.proofs.Common.{sym, ap, ◌∙◌, arith, length-take-le, le-ltb, ltb-true, ltb-false}
use Rattle.rules.specs.Bits.{ceil, flag, word, number, bytes, bit_at}
use Rattle.rules.specs.Bits.Order.{low_first}
use Rattle.rules.specs.Bitmap.{bitmap}
use Rattle.rules.specs.Spans.{selected, begins, ends, edges, spans, from_bitmap}
use Rattle.words.specs.Bits.{word_of, word_add, word-ext, word_none}
use Rattle.words.specs.Joined.{Small, small-take, joined_lt, bit-joined, bit_at_lt}
use Rattle.packed_entries.specs.Digits.{bytes-number}
use Rattle.spans_list.specs.SelectedWords.{flag_one}
use Rattle.promises.specs.Scans.{bit-front}

-- ---- bits past n, and later bytes, are not read

edges-ext : (k i : ℕ) (f g : ℕ → Bool) → ((j : ℕ) → f j ≡ g j) → edges k i f ≡ edges k i g
unfolding edges begins ends
edges-ext zero i f g same = refl
edges-ext (suc k) zero f g same = rw (same 0, same 1, edges-ext k 1 f g same)
edges-ext (suc k) (suc i) f g same = rw (same (suc i), same i, same (suc (suc i)), edges-ext k (suc (suc i)) f g same)

-- bitmaps that agree below n
abbrev pub Agree : ℕ → List ℕ → List ℕ → Type 0
Agree n bits other = (i : ℕ) → i < n → bit_at low_first 8 bits i ≡ bit_at low_first 8 other i

same-spans : (n : ℕ) (bits other : List ℕ) → Agree n bits other → spans bits n ≡ spans other n
unfolding spans selected
same-spans n bits other same = edges-ext n 0 (selected bits n) (selected other n) (λ i. go i (ltb i n) refl)
  where
    go : (i : ℕ) (t : Bool) → ltb i n ≡ t
        → (t && eqb (bit_at low_first 8 bits i) 1) ≡ (t && eqb (bit_at low_first 8 other i) 1)
    go i true h = ap (λ (x : ℕ). eqb x 1) (same i (ltb-true i n h))
    go i false h = refl

pub not-read : (n : ℕ) (bits other before : List ℕ) → ceil n 8 ≤ length bits → ceil n 8 ≤ length other
    → Agree n bits other → from_bitmap bits n before ≡ from_bitmap other n before
unfolding from_bitmap
not-read n bits other before long long' same =
    rw (le-ltb (length bits) (ceil n 8) long, le-ltb (length other) (ceil n 8) long', same-spans n bits other same)

-- ---- there and back

-- the unused bits of a bitmap of n entries are 0
abbrev pub UnusedClear : ℕ → List ℕ → Type 0
UnusedClear n bits = (i : ℕ) → n ≤ i → i < 8 * ceil n 8 → bit_at low_first 8 bits i ≡ 0

-- a bitmap made anew from its bits is the bytes that n reaches
pub bitmap_again : (bits : List ℕ) (n : ℕ) → ceil n 8 ≤ length bits → Small 8 bits → UnusedClear n bits
    → bitmap n (selected bits n) ≡ take (ceil n 8) bits
unfolding bitmap selected
bitmap_again bits n long small clear =
    let c : ℕ = ceil n 8 in
    let m : ℕ = 8 * c - n in
    let front : List ℕ = take c bits in
    let size : length front ≡ c = length-take-le c bits long in
    let tidy : Small 8 front = small-take 8 c bits small in
    let whole : n + m ≡ 8 * c = omega arith in
    let past : word m (λ k. selected bits n (n + k)) ≡ 0 =
    word-ext m {f = λ k. selected bits n (n + k)} {g = λ _. false} (λ k h. rw (le-ltb (n + k) n (omega arith)))
    ∙ word_none m in
    let longer : word n (selected bits n) ≡ word (8 * c) (selected bits n) =
    sym (ap (λ (k : ℕ). word k (selected bits n)) (sym whole) ∙ word_add n m (selected bits n)
    ∙ rw past (omega arith)) in
    let is : number front ≡ word (8 * c) (selected bits n) =
    word_of (8 * c) (selected bits n) (rw size at (joined_lt 8 front tidy))
    (λ k h. bit-joined 8 front k (omega arith) tidy ∙ sym (bit-front c bits k h) ∙ at k (ltb k n) refl h) in
    ap (bytes c) (longer ∙ sym is) ∙ ap (λ (k : ℕ). bytes k (number front)) (sym size) ∙ bytes-number front tidy
  where
    at : (k : ℕ) (t : Bool) → ltb k n ≡ t → k < 8 * ceil n 8
        → bit_at low_first 8 bits k ≡ flag (t && eqb (bit_at low_first 8 bits k) 1)
    at k true e h = flag_one (bit_at low_first 8 bits k) (bit_at_lt low_first 8 bits k)
    at k false e h = clear k (ltb-false k n e) h
