-- The page that entries make is the bytes of one number, the entries joined; and how it grows by entries.
use Rattle.std.specs.Prelude.{◌≡◌, List, [], ℕ, zero, suc, ◌+◌, ◌*◌, ◌≤◌, length, take, drop}
use Rattle.std.proofs.Common.{sym, ap, ◌∙◌, mul-zero, add-mul, arith, length-take-le}
use Rattle.rules.specs.Bits.{Order, ceil, tabulate, put, bytes, joined, entry_byte}
use Rattle.rules.specs.Bits.Order.{low_first}
use Rattle.rules.specs.Horizontal.{packed, page_bytes}
use Rattle.words.specs.Joined.{Small, small-take, piece-joined}
use Rattle.words.specs.Appended.{appended, appended-bits}
use Rattle.words.specs.Tabulated.{length-tabulate, tabulate-ext}
use Rattle.packed_entries.specs.Digits.{digit, bytes_digits, joined-more, first_below}

pub length-packed : (o : Order) (w : ℕ) (xs : List ℕ) → length (packed o w xs) ≡ page_bytes w (length xs)
unfolding packed
length-packed o w xs = length-tabulate (page_bytes w (length xs)) (entry_byte o w xs)

-- entries of no bits make no page, nor do no entries
pub packed_none : (o : Order) (w : ℕ) (xs : List ℕ) → length xs * w ≡ 0 → packed o w xs ≡ []
unfolding packed tabulate
packed_none o w xs e = ap (λ (n : ℕ). tabulate (ceil n 8) (entry_byte o w xs)) e

-- the page is the low bytes of the entries joined, at width 0 none
pub packed-joined : (w : ℕ) (xs : List ℕ) → Small w xs
    → packed low_first w xs ≡ bytes (page_bytes w (length xs)) (joined w xs)
unfolding packed bytes
packed-joined zero xs h =
    packed_none low_first 0 xs (mul-zero (length xs))
    ∙ ap (λ (n : ℕ). bytes (ceil n 8) (joined 0 xs)) (sym (mul-zero (length xs)))
packed-joined (suc w) xs h =
    let n : ℕ = page_bytes (suc w) (length xs) in
    tabulate-ext n (entry_byte low_first (suc w) xs) (digit 8 (joined (suc w) xs))
    (λ i l. piece-joined (suc w) xs (i * 8) 8 (omega arith) h)
    ∙ bytes_digits n (joined (suc w) xs)

-- the page of the first n entries
pub packed-first : (w n : ℕ) (xs : List ℕ) → n ≤ length xs → Small w xs
    → packed low_first w (take n xs) ≡ bytes (page_bytes w n) (joined w (take n xs))
packed-first w n xs h small =
    packed-joined w (take n xs) (small-take w n xs small)
    ∙ ap (λ (k : ℕ). bytes (page_bytes w k) (joined w (take n xs))) (length-take-le n xs h)

-- i entries are laid, and k more as one number behind them
pub laid_more : (l xs : List ℕ) (w i k : ℕ) → i + k ≤ length xs → Small w xs
    → appended (put l 0 (packed low_first w (take i xs))) (i * w) (joined w (take k (drop i xs))) (k * w)
    ≡ put l 0 (packed low_first w (take (i + k) xs))
laid_more l xs w i k h small =
    rw (
      packed-first w i xs (omega arith) small,
      packed-first w (i + k) xs h small,
      joined-more w i k xs (omega arith),
      add-mul,
    )
    (appended-bits l (i * w) (k * w) (joined w (take i xs)) (joined w (take k (drop i xs)))
    (first_below w i xs (omega arith) small))
