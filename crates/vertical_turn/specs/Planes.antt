-- The laws of `plane`: its bound, its bits, its entries one after another, a part of the entries.
use Rattle.std.specs.Prelude.{◌≡◌, refl, Bool, true, false, List, [], ◌∷◌, ℕ, zero, suc, ◌+◌, ◌-◌, ◌*◌, ◌/◌, ◌%◌, ◌^◌, ◌≤◌, ◌<◌, min, ltb, length, take, drop, get_or}
use Rattle.std.proofs.Common.{sym, ap, ◌∙◌, zero-add, pow-suc, lt_of_lt_of_le, add-one, arith, length-take, length-drop, get_or-take, get_or-drop, drop-cons, pow_mono, ltb-true, ltb-false}
use Rattle.std.proofs.Math.ListN.{get_or-eq_default}
use Rattle.std.proofs.Math.Seq.{drop-length}
use Rattle.rules.specs.Bits.{bit, flag}
use Rattle.rules.specs.Vertical.{plane}
use Rattle.words.specs.Bits.{bit_lt, bit-zero, bit-half, bit_of_zero, bit_word, word_lt, word-ext, ext}

-- a bit is what the test for it says
pub flag-bit : (x k : ℕ) → flag (ltb 0 (bit x k)) ≡ bit x k
flag-bit x k = go (ltb 0 (bit x k)) refl
  where
    go : (t : Bool) → ltb 0 (bit x k) ≡ t → flag t ≡ bit x k
    go true e = omega (arith, ltb-true 0 (bit x k) e, bit_lt x k)
    go false e = omega (arith, ltb-false 0 (bit x k) e)

pub plane_lt : (w : ℕ) (xs : List ℕ) (g k : ℕ) → plane w xs g k < 2 ^ 64
unfolding plane
plane_lt w xs g k = word_lt 64 (λ j. ltb 0 (bit (get_or xs (64 * g + j) 0) (w - 1 - k)))

pub bit-plane : (w : ℕ) (xs : List ℕ) (g k j : ℕ) → j < 64
    → bit (plane w xs g k) j ≡ bit (get_or xs (64 * g + j) 0) (w - 1 - k)
unfolding plane
bit-plane w xs g k j h =
    bit_word 64 (λ i. ltb 0 (bit (get_or xs (64 * g + i) 0) (w - 1 - k))) j h
    ∙ flag-bit (get_or xs (64 * g + j) 0) (w - 1 - k)

-- entries that agree have the same planes
pub plane-ext : (w : ℕ) (xs ys : List ℕ) (g h k : ℕ)
    → ((j : ℕ) → j < 64 → get_or xs (64 * g + j) 0 ≡ get_or ys (64 * h + j) 0) → plane w xs g k ≡ plane w ys h k
unfolding plane
plane-ext w xs ys g h k e = word-ext 64 (λ j l. ap (λ (x : ℕ). ltb 0 (bit x (w - 1 - k))) (e j l))

-- ---- a group's entries by themselves

pub plane-drop : (w : ℕ) (xs : List ℕ) (g k : ℕ) → plane w (drop (64 * g) xs) 0 k ≡ plane w xs g k
plane-drop w xs g k =
    plane-ext w (drop (64 * g) xs) xs 0 g k
    (λ j l. get_or-drop (64 * g) xs (0 + j) 0 ∙ ap (λ (i : ℕ). get_or xs (64 * g + i) 0) (zero-add j))

-- those that are lent: m of them, 64 or as many as are left
pub plane_part : (w : ℕ) (xs : List ℕ) (g m k : ℕ) → min 64 (length xs - 64 * g) ≤ m
    → plane w (take m (drop (64 * g) xs)) 0 k ≡ plane w xs g k
plane_part w xs g m k h =
    plane-ext w (take m ys) ys 0 0 k (λ j l. taken (0 + j) (omega arith) (ltb (0 + j) m) refl) ∙ plane-drop w xs g k
  where
    ys : List ℕ
    ys = drop (64 * g) xs

    taken : (j : ℕ) → j < 64 → (t : Bool) → ltb j m ≡ t → get_or (take m ys) j 0 ≡ get_or ys j 0
    taken j l true e = get_or-take m ys j 0 (ltb-true j m e)
    taken j l false e =
        let past : m ≤ j = ltb-false j m e in
        get_or-eq_default (take m ys) 0 {n = j} (omega (arith, length-take m ys))
        ∙ sym (get_or-eq_default ys 0 {n = j} (omega (arith, length-drop (64 * g) xs)))

-- ---- one bit of entries, one entry after another

-- bit b of each entry, the first entry's lowest
unfoldable pub bits_of : ℕ → List ℕ → ℕ
bits_of b [] = 0
bits_of b (x ∷ xs) = bits_of b xs * 2 + bit x b

pub bits_of_lt : (b : ℕ) (xs : List ℕ) → bits_of b xs < 2 ^ length xs
unfolding bits_of
bits_of_lt b [] = omega arith
bits_of_lt b (x ∷ xs) = omega (arith, bits_of_lt b xs, bit_lt x b, pow-suc 2 (length xs))

pub bit-bits_of : (b : ℕ) (xs : List ℕ) (j : ℕ) → bit (bits_of b xs) j ≡ bit (get_or xs j 0) b
unfolding bits_of
bit-bits_of b [] j = bit_of_zero j ∙ sym (bit_of_zero b)
bit-bits_of b (x ∷ xs) zero = bit-zero (bits_of b xs * 2 + bit x b) ∙ omega (arith, bit_lt x b)
bit-bits_of b (x ∷ xs) (suc j) =
    let half : (bits_of b xs * 2 + bit x b) / 2 ≡ bits_of b xs = omega (arith, bit_lt x b) in
    sym (bit-half (bits_of b xs * 2 + bit x b) j) ∙ ap (λ (y : ℕ). bit y j) half ∙ bit-bits_of b xs j

-- the entries from j on: none, and one more
pub bits_of-none : (b : ℕ) (xs : List ℕ) → bits_of b (drop (length xs) xs) ≡ 0
unfolding bits_of
bits_of-none b xs = ap (bits_of b) (drop-length xs)

pub bits_of-step : (b : ℕ) (xs : List ℕ) (j : ℕ) → j < length xs
    → bits_of b (drop j xs) ≡ bits_of b (drop (j + 1) xs) * 2 + get_or xs j 0 / 2 ^ b % 2
unfolding bits_of bit
bits_of-step b xs j h = rw (add-one, drop-cons xs j 0 h)

-- at most 64 entries make a word, and it is the plane
pub bits_of-fits : (b : ℕ) (xs : List ℕ) (j : ℕ) → length xs ≤ 64 → bits_of b (drop j xs) < 2 ^ 64
bits_of-fits b xs j h =
    lt_of_lt_of_le (bits_of_lt b (drop j xs))
    (pow_mono {i = length (drop j xs)} {j = 64} (omega (arith, length-drop j xs)))

pub bits_of-plane : (w : ℕ) (xs : List ℕ) (k : ℕ) → length xs ≤ 64 → bits_of (w - 1 - k) xs ≡ plane w xs 0 k
bits_of-plane w xs k h =
    ext 64 (bits_of-fits (w - 1 - k) xs 0 h) (plane_lt w xs 0 k)
    (λ j l. bit-bits_of (w - 1 - k) xs j ∙ ap (λ (i : ℕ). bit (get_or xs i 0) (w - 1 - k)) (sym (zero-add j)) ∙ sym
    (bit-plane w xs 0 k j l))
