-- Packed entries unpacked are the entries, and a page's entries packed are the page, at every width, also 0.
use Rattle.std.specs.Prelude.{◌≡◌, false, List, ◌++◌, ℕ, ◌+◌, ◌-◌, ◌*◌, ◌/◌, ◌%◌, ◌^◌, ◌<◌, length, take, get_or}
use Rattle.std.proofs.Common.{sym, ap, ◌∙◌, mod-eq_of_lt, div-lt_iff_lt-mul, one-mul, zero-add, arith, ext_get_or, take_at, pow_pos, shr_lt}
use Rattle.std.proofs.Math.Nat.{div-eq_of_lt, zero-mod}
use Rattle.rules.specs.Bits.{tabulate, joined, number, field, entry, entry_byte}
use Rattle.rules.specs.Bits.Order.{low_first}
use Rattle.rules.specs.Answer.{any_large}
use Rattle.rules.specs.Horizontal.{packed, page_bytes, unused}
use Rattle.words.specs.Bytes.{number-whole}
use Rattle.words.specs.Entries.{field-number, field-window, place-within}
use Rattle.words.specs.Joined.{Small, joined_lt, piece_lt}
use Rattle.words.specs.Tabulated.{length-tabulate, get_or-tabulate, tabulate-ext, small-tabulate}
use Rattle.packed_entries.specs.NoneTooLarge.{small_of, large_of}
use Rattle.packed_entries.specs.Digits.{digit, joined-below, joined-digit, joined_digits, bytes-number}
use Rattle.packed_entries.specs.Packed.{length-packed, packed-joined}

-- ---- what a page holds

-- entries of a page are never too large
small-entries : (w n : ℕ) (page : List ℕ) → Small w (tabulate n (entry low_first page w))
small-entries w n page = small-tabulate w n (entry low_first page w) (λ i. piece_lt 8 page (i * w) w)

pub entries-small : (w n : ℕ) (page : List ℕ) → any_large w (tabulate n (entry low_first page w)) ≡ false
entries-small w n page = large_of w (tabulate n (entry low_first page w)) (small-entries w n page)

-- a page of the right length whose unused bits are 0 is a number of the entries' bits
number-below : (w n : ℕ) (page : List ℕ) → Small 8 page → length page ≡ page_bytes w n → unused low_first page w n ≡ 0
    → number page < 2 ^ (n * w)
number-below w n page h size none =
    let p : ℕ = n * w in
    let m : ℕ = 8 * page_bytes w n - p in
    let all : 8 * length page ≡ m + p = omega arith in
    let top : number page / 2 ^ p < 2 ^ m = shr_lt m p (rw all at (joined_lt 8 page h)) in
    let zero : number page / 2 ^ p ≡ 0 = sym (mod-eq_of_lt top) ∙ sym (field-number page p m h) ∙ none in
    rw one-mul at ((div-lt_iff_lt-mul {k = 2 ^ p} {x = number page} {y = 1} (pow_pos p)).0 (omega arith))

-- ---- what a packed page holds

small_packed : (w : ℕ) (xs : List ℕ) → Small 8 (packed low_first w xs)
unfolding packed
small_packed w xs =
    small-tabulate 8 (page_bytes w (length xs)) (entry_byte low_first w xs) (λ i. piece_lt w xs (i * 8) 8)

-- its number is that of the entries joined
number-packed : (w : ℕ) (xs : List ℕ) → Small w xs → number (packed low_first w xs) ≡ joined w xs
number-packed w xs h =
    ap number (packed-joined w xs h)
    ∙ number-whole (page_bytes w (length xs)) (length xs * w) (joined w xs) (joined-below w xs h) (omega arith)

field-packed : (w : ℕ) (xs : List ℕ) (k m : ℕ) → Small w xs
    → field low_first (packed low_first w xs) k m ≡ joined w xs / 2 ^ k % 2 ^ m
field-packed w xs k m h =
    field-number (packed low_first w xs) k m (small_packed w xs)
    ∙ ap (λ (x : ℕ). x / 2 ^ k % 2 ^ m) (number-packed w xs h)

-- ---- there and back

pub unpack-packed : (w : ℕ) (xs : List ℕ) → any_large w xs ≡ false
    → tabulate (length xs) (entry low_first (packed low_first w xs) w) ≡ xs
unpack-packed w xs e =
    let h : Small w xs = small_of w xs e in
    let f : ℕ → ℕ = entry low_first (packed low_first w xs) w in
    let size : length (tabulate (length xs) f) ≡ length xs = length-tabulate (length xs) f in
    ext_get_or 0 (tabulate (length xs) f) xs size
    (λ i l. get_or-tabulate (length xs) f i 0 (omega arith) ∙ field-packed w xs (i * w) w h ∙ joined-digit w xs i h)

pub unused-packed : (w : ℕ) (xs : List ℕ) → any_large w xs ≡ false
    → unused low_first (packed low_first w xs) w (length xs) ≡ 0
unused-packed w xs e =
    let h : Small w xs = small_of w xs e in
    let n : ℕ = length xs in
    field-packed w xs (n * w) (8 * page_bytes w n - n * w) h
    ∙ rw (div-eq_of_lt (joined-below w xs h)) (zero-mod (2 ^ (8 * page_bytes w n - n * w)))

pub pack_unpacked : (w n : ℕ) (page : List ℕ) → Small 8 page → length page ≡ page_bytes w n
    → unused low_first page w n ≡ 0
    → packed low_first w (tabulate n (entry low_first page w)) ≡ page
pack_unpacked w n page h size none =
    let xs : List ℕ = tabulate n (entry low_first page w) in
    let long : length xs ≡ n = length-tabulate n (entry low_first page w) in
    let whole : joined w xs ≡ number page =
    ap (joined w)
    (tabulate-ext n (entry low_first page w) (digit w (number page)) (λ i l. field-number page (i * w) w h))
    ∙ joined_digits w n (number page) ∙ mod-eq_of_lt (number-below w n page h size none) in
    packed-joined w xs (small-entries w n page) ∙ rw (long, whole, ← size) (bytes-number page h)

-- an entry of a packed page, also with more behind the page
pub entry-packed : (w : ℕ) (xs rest : List ℕ) (i : ℕ) → any_large w xs ≡ false → i < length xs
    → entry low_first (packed low_first w xs ++ rest) w i ≡ get_or xs i 0
entry-packed w xs rest i e l =
    let page : List ℕ = packed low_first w xs in
    let n : ℕ = page_bytes w (length xs) in
    let front : take n (page ++ rest) ≡ page = take_at page rest n (length-packed low_first w xs) in
    let inside : entry low_first page w i ≡ entry low_first (page ++ rest) w i =
    rw (front, zero-add) at
    (field-window (page ++ rest) 0 n (i * w) w (omega (arith, place-within w i (length xs) l))) in
    sym inside ∙ sym (get_or-tabulate (length xs) (entry low_first page w) i 0 l)
    ∙ ap (λ (ys : List ℕ). get_or ys i 0) (unpack-packed w xs e)
