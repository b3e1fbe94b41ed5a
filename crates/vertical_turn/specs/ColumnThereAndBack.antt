-- Whole columns of bit planes: packed entries unpacked are the entries, and a column's entries packed are the
-- column, at every width, also 0.
use Rattle.std.specs.Prelude.{◌≡◌, false, List, ℕ, zero, suc, ◌+◌, ◌-◌, ◌*◌, ◌/◌, ◌%◌, ◌≤◌, ◌<◌, ltb, length, get_or}
use Rattle.std.proofs.Common.{sym, ap, ap₂, ◌∙◌, not-suc-le-zero, add-zero, mul-zero, mod-lt, mod-eq_of_lt, div-lt_iff_lt-mul, div-add-mod', mul-le-mul_right, suc-mul, arith, ext_get_or, le-ltb}
use Rattle.std.proofs.Math.Nat.{div-eq_of_lt, mul-add-div_right, mul-add-mod_self_right}
use Rattle.std.proofs.Math.ListN.{get_or-eq_default}
use Rattle.rules.specs.Bits.{ceil, tabulate, put}
use Rattle.rules.specs.Answer.{any_large}
use Rattle.rules.specs.Vertical.{lane, entry, plane, packed, page_words, unused}
use Rattle.words.specs.Joined.{Small}
use Rattle.words.specs.SomeBelow.{none_below}
use Rattle.words.specs.Tabulated.{length-tabulate, get_or-tabulate, tabulate-ext, small-tabulate, put-tabulate_add}
use Rattle.packed_entries.specs.NoneTooLarge.{small_of, large_of}
use Rattle.vertical_compare.specs.Lanes.{lane_lt}
use Rattle.vertical_turn.specs.NoLaneSet.{unused-zero}
use Rattle.vertical_turn.specs.GroupThereAndBack.{lane_planes, plane_lanes, get_or-tabulate-zero}

-- entries of a column are never too large
pub entries-small : (w n : ℕ) (words : List ℕ) → any_large w (tabulate n (entry words w)) ≡ false
entries-small w n words =
    large_of w (tabulate n (entry words w))
    (small-tabulate w n (entry words w) (λ i. lane_lt words (i / 64 * w) w (i % 64)))

-- ---- the words of a column, group by group

-- a column that has words has entries of some bits
some_bits : (n w i : ℕ) → i < n * w → 0 < w
some_bits n zero i h = absurd (not-suc-le-zero (rw mul-zero at h))
some_bits n (suc w) i h = omega arith

pub length-packed : (w : ℕ) (xs : List ℕ) → length (packed w xs) ≡ page_words w (length xs)
unfolding packed
length-packed w xs = length-tabulate (page_words w (length xs)) (λ i. plane w xs (i / w) (i % w))

-- lane j of group g is entry 64 × g + j
pub entry_group : (words : List ℕ) (w g j : ℕ) → j < 64 → entry words w (64 * g + j) ≡ lane words (g * w) w j
entry_group words w g j h =
    let group : (64 * g + j) / 64 ≡ g = omega arith in
    let place : (64 * g + j) % 64 ≡ j = omega arith in
    ap₂ (λ (q r : ℕ). lane words (q * w) w r) group place

-- word k of group g, of groups of w words
group_of : (w g k : ℕ) → k < w → (g * w + k) / w ≡ g
group_of w g k h = mul-add-div_right (omega arith) g k ∙ ap (λ (q : ℕ). g + q) (div-eq_of_lt h) ∙ add-zero g

place_of : (w g k : ℕ) → k < w → (g * w + k) % w ≡ k
place_of w g k h = mul-add-mod_self_right g w k ∙ mod-eq_of_lt h

-- it is the group's plane k
pub get_or-packed : (w : ℕ) (xs : List ℕ) (g k : ℕ) → g < ceil (length xs) 64 → k < w
    → get_or (packed w xs) (g * w + k) 0 ≡ plane w xs g k
unfolding packed
get_or-packed w xs g k hg hk =
    let n : ℕ = ceil (length xs) 64 in
    let room : suc g * w ≤ n * w = mul-le-mul_right w hg in
    let within : g * w + k < n * w = omega (arith, suc-mul g w) in
    get_or-tabulate (n * w) (λ i. plane w xs (i / w) (i % w)) (g * w + k) 0 within
    ∙ ap₂ (plane w xs) (group_of w g k hk) (place_of w g k hk)

-- each entry of a packed column, also past the last, is the list's
pub entry-packed : (w : ℕ) (xs : List ℕ) (i : ℕ) → Small w xs → i < 64 * ceil (length xs) 64
    → entry (packed w xs) w i ≡ get_or xs i 0
entry-packed w xs i small h =
    let g : ℕ = i / 64 in
    let here : 64 * g + i % 64 ≡ i = omega arith in
    lane_planes (packed w xs) xs (g * w) w g (i % 64) small (omega arith)
    (λ k l. get_or-packed w xs g k (omega arith) l)
    ∙ ap (λ (j : ℕ). get_or xs j 0) here

-- ---- there and back

pub unpack-packed : (w : ℕ) (xs : List ℕ) → any_large w xs ≡ false → tabulate (length xs) (entry (packed w xs) w) ≡ xs
unpack-packed w xs e =
    let f : ℕ → ℕ = entry (packed w xs) w in
    let size : length (tabulate (length xs) f) ≡ length xs = length-tabulate (length xs) f in
    ext_get_or 0 (tabulate (length xs) f) xs size
    (λ i l. get_or-tabulate (length xs) f i 0 (omega arith) ∙ entry-packed w xs i (small_of w xs e) (omega arith))

pub unused-packed : (w : ℕ) (xs : List ℕ) → any_large w xs ≡ false → unused (packed w xs) w (length xs) ≡ false
unused-packed w xs e =
    let n : ℕ = length xs in
    none_below (64 * ceil n 64 - n) (λ k. ltb 0 (entry (packed w xs) w (n + k)))
    (λ k l.
    let none : entry (packed w xs) w (n + k) ≡ 0 =
    entry-packed w xs (n + k) (small_of w xs e) (omega arith) ∙ get_or-eq_default xs 0 {n = n + k} (omega arith) in
    le-ltb 0 (entry (packed w xs) w (n + k)) (omega arith))

pub pack_unpacked : (w n : ℕ) (words : List ℕ) → Small 64 words → length words ≡ page_words w n
    → unused words w n ≡ false
    → packed w (tabulate n (entry words w)) ≡ words
pack_unpacked w n words small size none =
    ext_get_or 0 (packed w xs) words (length-packed w xs ∙ ap (page_words w) long ∙ sym size) same
  where
    xs : List ℕ
    xs = tabulate n (entry words w)

    long : length xs ≡ n
    long = length-tabulate n (entry words w)

    -- lane j of group g is its entry, and 0 past n
    lanes : (g j : ℕ) → g < ceil n 64 → j < 64 → get_or xs (64 * g + j) 0 ≡ lane words (g * w) w j
    lanes g j hg hj =
        get_or-tabulate-zero n (entry words w) (64 * g + j)
        (λ past. unused-zero words w n (64 * g + j) none past (omega arith))
        ∙ entry_group words w g j hj

    same : (i : ℕ) → i < length (packed w xs) → get_or (packed w xs) i 0 ≡ get_or words i 0
    same i l =
        let all : i < ceil n 64 * w = rw (length-packed w xs ∙ ap (page_words w) long) at l in
        let wide : 0 < w = some_bits (ceil n 64) w i all in
        let g : ℕ = i / w in
        let k : ℕ = i % w in
        let split : g * w + k ≡ i = div-add-mod' i w in
        let group : g < ceil n 64 = (div-lt_iff_lt-mul {k = w} {x = i} {y = ceil n 64} wide).1 all in
        let inside : k < w = mod-lt i wide in
        let packed-word : get_or (packed w xs) (g * w + k) 0 ≡ plane w xs g k =
        get_or-packed w xs g k (rw long group) inside in
        let back : plane w xs g k ≡ get_or words (g * w + k) 0 =
        plane_lanes words xs (g * w) w g k inside (small (g * w + k)) (λ j h. lanes g j group h) in
        rw split at (packed-word ∙ back)

-- ---- a column filled group by group

-- g groups' entries are in place, and m of the next group's
pub next_group_entries : (l words : List ℕ) (w g m : ℕ) → m ≤ 64 → 64 * g + m ≤ length l
    → put (put l 0 (tabulate (64 * g) (entry words w))) (64 * g) (tabulate m (lane words (g * w) w))
    ≡ put l 0 (tabulate (64 * g + m) (entry words w))
next_group_entries l words w g m few fits =
    ap (put (put l 0 (tabulate (64 * g) (entry words w))) (64 * g))
    (tabulate-ext m (lane words (g * w) w) (λ j. entry words w (64 * g + j))
    (λ j h. sym (entry_group words w g j (omega arith))))
    ∙ put-tabulate_add l (64 * g) m (entry words w) fits

-- g groups' planes are in place, and the next group's
pub next_group_planes : (l xs : List ℕ) (w g : ℕ) → g * w + w ≤ length l
    → put (put l 0 (tabulate (g * w) (λ i. plane w xs (i / w) (i % w)))) (g * w) (tabulate w (plane w xs g))
    ≡ put l 0 (tabulate (g * w + w) (λ i. plane w xs (i / w) (i % w)))
next_group_planes l xs w g fits =
    let f : ℕ → ℕ = λ i. plane w xs (i / w) (i % w) in
    ap (put (put l 0 (tabulate (g * w) f)) (g * w))
    (tabulate-ext w (plane w xs g) (λ k. f (g * w + k))
    (λ k h. sym (ap₂ (plane w xs) (group_of w g k h) (place_of w g k h))))
    ∙ put-tabulate_add l (g * w) w f fits
