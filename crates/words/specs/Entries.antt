-- The laws of a page's fields: through a window of bytes, of a part of the page, with zeros behind it.
use Rattle.std.specs.Prelude.{◌≡◌, refl, List, ℕ, zero, suc, ◌+◌, ◌*◌, ◌/◌, ◌%◌, ◌^◌, ◌≤◌, ◌<◌, length, take, drop, get_or}
use Rattle.std.proofs.Common.{sym, ap, ap₂, ◌∙◌, lt_of_lt_of_le, suc-mul, mul-le-mul_right, arith, length-drop, get_or-take, get_or-drop, pow_mono}
use Rattle.rules.specs.Bits.{bit, number, bit_of, bit_at, piece, field}
use Rattle.rules.specs.Bits.Order.{low_first}
use Rattle.words.specs.Joined.{Small, small-take, small-drop, joined_lt, piece-joined, piece_lt}

pub field-number : (l : List ℕ) (k w : ℕ) → Small 8 l → field low_first l k w ≡ number l / 2 ^ k % 2 ^ w
field-number l k w h = piece-joined 8 l k w (omega arith) h

-- a field that lies in n bytes from byte b on
pub field-window : (l : List ℕ) (b n k w : ℕ) → k + w ≤ 8 * n
    → field low_first (take n (drop b l)) k w ≡ field low_first l (8 * b + k) w
unfolding piece bit_at bit_of
field-window l b n k zero h = refl
field-window l b n k (suc w) h =
    let byte : b + k / 8 ≡ (8 * b + k) / 8 = omega arith in
    let place : k % 8 ≡ (8 * b + k) % 8 = omega arith in
    let here : get_or (take n (drop b l)) (k / 8) 0 ≡ get_or l ((8 * b + k) / 8) 0 =
    get_or-take n (drop b l) (k / 8) 0 (omega arith) ∙ get_or-drop b l (k / 8) 0 ∙ ap (λ (i : ℕ). get_or l i 0) byte in
    ap₂ (λ (x y : ℕ). x + y * 2) (ap₂ bit here place)
    (field-window l b n (suc k) w (omega arith) ∙ ap (λ (i : ℕ). field low_first l i w) (omega arith))

-- and read through them: a shift and a remainder
pub window : (l : List ℕ) (b n k w : ℕ) → Small 8 l → k + w ≤ 8 * n
    → number (take n (drop b l)) / 2 ^ k % 2 ^ w ≡ field low_first l (8 * b + k) w
window l b n k w h fits =
    sym (field-number (take n (drop b l)) k w (small-take 8 n (drop b l) (small-drop 8 b l h)))
    ∙ field-window l b n k w fits

-- the bytes from k on, at most eight, make a word
pub number_short : (s : List ℕ) (k : ℕ) → Small 8 s → length s ≤ k + 8 → number (drop k s) < 2 ^ 64
number_short s k b h =
    lt_of_lt_of_le (joined_lt 8 (drop k s) (small-drop 8 k s b))
    (pow_mono {i = 8 * length (drop k s)} {j = 64} (omega (arith, length-drop k s)))

-- pages that agree byte by byte have the same fields
pub field-ext : (l k : List ℕ) → ((j : ℕ) → get_or l j 0 ≡ get_or k j 0) → (o w : ℕ)
    → field low_first l o w ≡ field low_first k o w
unfolding piece bit_at bit_of
field-ext l k h o zero = refl
field-ext l k h o (suc w) =
    ap₂ (λ (x y : ℕ). x + y * 2) (ap (λ (x : ℕ). bit x (o % 8)) (h (o / 8))) (field-ext l k h (suc o) w)

-- the fields of the part from byte a on
pub field-drop : (l : List ℕ) (a o w : ℕ) → field low_first (drop a l) o w ≡ field low_first l (8 * a + o) w
unfolding piece bit_at bit_of
field-drop l a o zero = refl
field-drop l a o (suc w) =
    let byte : a + o / 8 ≡ (8 * a + o) / 8 = omega arith in
    let place : o % 8 ≡ (8 * a + o) % 8 = omega arith in
    ap₂ (λ (x y : ℕ). x + y * 2)
    (ap₂ bit (get_or-drop a l (o / 8) 0 ∙ ap (λ (i : ℕ). get_or l i 0) byte) place)
    (field-drop l a (suc o) w ∙ ap (λ (i : ℕ). field low_first l i w) (omega arith))

-- an entry within the widths is a number of 32 bits
pub field-small : (page : List ℕ) (k w : ℕ) → w ≤ 32 → field low_first page k w < 4294967296
field-small page k w h = lt_of_lt_of_le (piece_lt 8 page k w) (pow_mono {i = w} {j = 32} h)

-- place i of n places of size w ends within them
pub place-within : (w i n : ℕ) → i < n → i * w + w ≤ n * w
place-within w i n h = rw (← (suc-mul i w)) (mul-le-mul_right w h)
