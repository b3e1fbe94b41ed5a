-- The entries of a body's parts, and the bits that a comparison leaves of them.
use Rattle.std.specs.Prelude.{◌≡◌, refl, Bool, List, ◌++◌, ℕ, zero, suc, ◌+◌, ◌-◌, ◌*◌, ◌^◌, ◌≤◌, length, take, drop, replicate}
use Rattle.std.proofs.Common.{sym, ap, ◌∙◌, add-mul, mul_assoc, mul-le-mul_right, arith}
use Rattle.rules.specs.Bits.{ceil, word, joined, number, bytes, put, field, entry}
use Rattle.rules.specs.Bits.Order.{low_first}
use Rattle.rules.specs.Horizontal.{page_bytes}
use Rattle.rules.specs.Bitmap.{bitmap}
use Rattle.words.specs.Bits.{word-ext}
use Rattle.words.specs.Bytes.{number_append}
use Rattle.words.specs.Entries.{field-window, place-within}
use Rattle.words.specs.Puts.{part_put}
use Rattle.words.specs.Appended.{appended}
use Rattle.bitmaps.specs.Bitmaps.{number-bitmap}
use Rattle.packed_kernels.specs.Selected.{selected}
use Rattle.runs_mark.specs.FromAByte.{appended-whole}

-- ---- the bits of a part

zeros-number : (k z : ℕ) → number (drop k (replicate z 0)) ≡ 0
unfolding joined
zeros-number zero zero = refl
zeros-number zero (suc z) = omega (arith, zeros-number zero z)
zeros-number (suc k) zero = refl
zeros-number (suc k) (suc z) = zeros-number k z

-- a bitmap with zeros behind it is the word of its test
number-padded : (z n : ℕ) (f : ℕ → Bool) → number (put (replicate z 0) 0 (bitmap n f)) ≡ word n f
unfolding put
number-padded z n f =
    let rest : List ℕ = drop (0 + length (bitmap n f)) (replicate z 0) in
    let none : number rest * 256 ^ length (bitmap n f) ≡ 0 =
    ap (λ (x : ℕ). x * 256 ^ length (bitmap n f)) (zeros-number (0 + length (bitmap n f)) z) ∙ omega arith in
    omega (arith, number_append (bitmap n f) rest, number-bitmap n f)

-- what a comparison writes in front of zeros
pub selected-number : (page : List ℕ) (z w n : ℕ) (test : ℕ → Bool)
    → number (put (replicate z 0) 0 (selected page n w test)) ≡ word n (λ i. test (entry low_first page w i))
unfolding selected
selected-number page z w n test = number-padded z n (λ i. test (entry low_first page w i))

-- what a comparison writes from byte a on is what it puts from that byte's first bit on
pub selected-whole : (l ys page : List ℕ) (a p w n : ℕ) (test : ℕ → Bool) → 8 * a ≡ p
    → ys ≡ put (take (length l - a) (drop a l)) 0 (selected page n w test)
    → take a l ++ (ys ++ drop (length l - a) (drop a l))
    ≡ appended l p (word n (λ i. test (entry low_first page w i))) n
unfolding selected bitmap
selected-whole l ys page a p w n test place e =
    let x : ℕ = word n (λ i. test (entry low_first page w i)) in
    part_put l ys (bytes (ceil n 8) x) a e ∙ sym (appended-whole l a x n) ∙ ap (λ (k : ℕ). appended l k x n) place

-- ---- the entries of a part

-- entries that lie in n bytes from byte a on
pub part_word : (body : List ℕ) (a n w k : ℕ) (test : ℕ → Bool) → k * w ≤ 8 * n
    → word k (λ i. test (entry low_first (take n (drop a body)) w i))
    ≡ word k (λ i. test (field low_first body (8 * a + i * w) w))
part_word body a n w k test h =
    word-ext k (λ i l. ap test (field-window body a n (i * w) w (omega (arith, place-within w i k l))))

-- the entries behind n others, which end with byte `at`
pub part_words : (body : List ℕ) (n w at k : ℕ) (test : ℕ → Bool) → 8 * at ≡ n * w
    → word k (λ i. test (field low_first body (8 * at + i * w) w)) ≡ word k (λ i. test (entry low_first body w (n + i)))
part_words body n w at k test e =
    let places : (i : ℕ) → 8 * at + i * w ≡ (n + i) * w = λ i. rw (e, add-mul) in
    word-ext k (λ i l. ap (λ (b : ℕ). test (field low_first body b w)) (places i))

-- g groups of eight entries are g × w bytes, and the other entries lie in the bytes behind them
module _ (g w m : ℕ) where
  bits-split : 8 * g ≤ m → m * w ≡ 8 * (g * w) + (m - 8 * g) * w
  bits-split h =
      let whole : m ≡ 8 * g + (m - 8 * g) = omega arith in
      ap (λ (k : ℕ). k * w) whole ∙ rw (add-mul, mul_assoc)

  pub groups-rest : 8 * g ≤ m → page_bytes w m ≡ g * w + page_bytes w (m - 8 * g)
  groups-rest h = omega (arith, bits-split h)

  -- 448 entries more
  pub groups-more : 8 * g + 448 ≤ m → g * w + 56 * w ≤ page_bytes w m
  groups-more h =
      let few : 448 ≤ m - 8 * g = omega arith in
      omega (arith, groups-rest (omega arith), mul-le-mul_right w few)
