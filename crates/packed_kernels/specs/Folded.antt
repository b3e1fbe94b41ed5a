-- The bits that a word's slots hold, brought side by side: two and two slots, and then all of them.
use Rattle.std.specs.Prelude.{◌≡◌, ℕ, ◌+◌, ◌-◌, ◌*◌, ◌/◌, ◌%◌, ◌^◌, ◌<◌, ◌≤◌, Bool, bit_and}
use Rattle.std.proofs.Common.{sym, ap, ap₂, ◌∙◌, mul_assoc, mul_comm, add-mul, zero-mul, add-zero, add_comm, lt_of_lt_of_le, mod-eq_of_lt, mul-le-mul_right, arith, pow-add, pow_mono, shr-shr}
use Rattle.std.proofs.Math.Pow.{high, low}
use Rattle.rules.specs.Bits.{flag, word, tabulate, joined}
use Rattle.words.specs.Bits.{flag_lt}
use Rattle.packed_kernels.specs.Slots.{slots, mod_low, slots-ext, slots_lt, slots_add, slots_mul, slots_mask}
use Rattle.packed_kernels.specs.Slots.{slot-low, every}
use Rattle.packed_kernels.specs.SlotTests.{pair, pair_lt, every-fits}

-- slots of d bits that hold b of them, taken together two and two
pub fold : (n d b : ℕ) (c : ℕ → ℕ) (y : ℕ) → b ≤ d → ((i : ℕ) → i < n + n → c i < 2 ^ b) → y ≡ slots (n + n) d c
    → bit_and y ((2 ^ b - 1) * slots n (2 * d) (λ i. 1))
    + bit_and (y / 2 ^ d) ((2 ^ b - 1) * slots n (2 * d) (λ i. 1)) * 2 ^ b
    ≡ slots n (2 * d) (λ i. c (2 * i) + c (2 * i + 1) * 2 ^ b)
fold n d b c y h small e =
    let mask : ℕ = (2 ^ b - 1) * slots n (2 * d) (λ i. 1) in
    let at : (k : ℕ) → k < n + n → y / 2 ^ (k * d) % 2 ^ b ≡ c k =
    λ k l. ap (λ (x : ℕ). x / 2 ^ (k * d) % 2 ^ b) e ∙ slot-low (n + n) d b c k h l small in
    let taken : (x : ℕ) → bit_and x mask ≡ slots n (2 * d) (λ i. x / 2 ^ (i * (2 * d)) % 2 ^ b) =
    λ x. ap (bit_and x) (every n (2 * d) (2 ^ b - 1)) ∙ slots_mask n (2 * d) b x (omega arith) in
    let place : (i : ℕ) → i * (2 * d) ≡ 2 * i * d = λ i. rw (← mul_assoc, mul_comm i) in
    let even : (i : ℕ) → i < n → y / 2 ^ (i * (2 * d)) % 2 ^ b ≡ c (2 * i) =
    λ i l. ap (λ (k : ℕ). y / 2 ^ k % 2 ^ b) (place i) ∙ at (2 * i) (omega arith) in
    let odd : (i : ℕ) → i < n → y / 2 ^ d / 2 ^ (i * (2 * d)) % 2 ^ b ≡ c (2 * i + 1) =
    λ i l. ap (λ (k : ℕ). k % 2 ^ b)
    (shr-shr y d (i * (2 * d)) ∙ ap (λ (k : ℕ). y / 2 ^ k) (omega (arith, add-mul (2 * i) 1 d, place i)))
    ∙ at (2 * i + 1) (omega arith) in
    ap₂ (λ (p q : ℕ). p + q * 2 ^ b)
    (taken y ∙ slots-ext n (2 * d) even)
    (taken (y / 2 ^ d) ∙ slots-ext n (2 * d) odd)
    ∙ ap (λ (x : ℕ). slots n (2 * d) (λ i. c (2 * i)) + x) (slots_mul n (2 * d) (λ i. c (2 * i + 1)) (2 ^ b))
    ∙ slots_add n (2 * d) (λ i. c (2 * i)) (λ i. c (2 * i + 1) * 2 ^ b)

-- two slots that hold b bits each, side by side
pub join : (d b : ℕ) (c : ℕ → ℕ) → b ≤ d → c 0 < 2 ^ b
    → slots 2 d c % 2 ^ b + slots 2 d c / 2 ^ d * 2 ^ b ≡ c 0 + c 1 * 2 ^ b
unfolding slots joined tabulate
join d b c h small =
    let z : ℕ = c 0 + (c 1 + 0 * 2 ^ d) * 2 ^ d in
    let e : z ≡ c 1 * 2 ^ d + c 0 = rw (zero-mul, add-zero) (add_comm (c 0) (c 1 * 2 ^ d)) in
    let fits : c 0 < 2 ^ d = lt_of_lt_of_le small (pow_mono {i = b} {j = d} h) in
    let top : z / 2 ^ d ≡ c 1 = ap (λ (x : ℕ). x / 2 ^ d) e ∙ high (c 1) d fits in
    let bottom : z % 2 ^ b ≡ c 0 =
    sym (mod_low z b d h) ∙ ap (λ (x : ℕ). x % 2 ^ d % 2 ^ b) e ∙ ap (λ (x : ℕ). x % 2 ^ b) (low (c 1) d fits)
    ∙ mod-eq_of_lt small in
    ap₂ (λ (p q : ℕ). p + q * 2 ^ b) bottom top

-- four digits, and eight
pub word_four : (t : ℕ → Bool) → pair t 0 + pair t 1 * 4 ≡ word 4 t
unfolding word pair
word_four t = omega arith

pub word_eight : (t : ℕ → Bool) → pair t 0 + pair t 1 * 4 + (pair t 2 + pair t 3 * 4) * 16 ≡ word 8 t
unfolding word pair
word_eight t = omega arith

-- ---- the words that the functions make of a word's tests, and that these fit

-- y is two slots, of which the upper one comes down by all but s of its bits, beside what the lower one holds
module _ (d s : ℕ) (c : ℕ → ℕ) (y : ℕ) (some : s ≤ d) (small : c 0 < 2 ^ (d - s)) (e : y ≡ slots 2 d c) where
  two_digits : y ≡ c 1 * 2 ^ d + c 0
  unfolding slots joined tabulate
  two_digits = e ∙ rw (zero-mul, add-zero) (add_comm (c 0) (c 1 * 2 ^ d))

  -- a number at bit d is one at any bit below
  moved : (k : ℕ) → k ≤ d → c 1 * 2 ^ d ≡ c 1 * 2 ^ k * 2 ^ (d - k)
  moved k h =
      let size : d ≡ k + (d - k) = omega arith in
      ap (λ (j : ℕ). c 1 * 2 ^ j) size ∙ ap (λ (j : ℕ). c 1 * j) (pow-add 2 k (d - k))
      ∙ sym (mul_assoc (c 1) (2 ^ k) (2 ^ (d - k)))

  upper : y / 2 ^ (d - s) ≡ c 1 * 2 ^ s
  upper =
      ap (λ (k : ℕ). k / 2 ^ (d - s)) (two_digits ∙ ap (λ (k : ℕ). k + c 0) (moved s some))
      ∙ high (c 1 * 2 ^ s) (d - s) small

  sum : y + y / 2 ^ (d - s) ≡ c 1 * 2 ^ d + (c 0 + c 1 * 2 ^ s)
  sum = omega (arith, two_digits, upper)

  pub beside : (m : ℕ) → m ≤ d → c 0 + c 1 * 2 ^ s < 2 ^ m → (y + y / 2 ^ (d - s)) % 2 ^ m ≡ c 0 + c 1 * 2 ^ s
  beside m h fits =
      let size : d - (d - m) ≡ m = omega arith in
      let scaled : c 1 * 2 ^ d ≡ c 1 * 2 ^ (d - m) * 2 ^ m =
      moved (d - m) (omega arith) ∙ ap (λ (k : ℕ). c 1 * 2 ^ (d - m) * 2 ^ k) size in
      ap (λ (k : ℕ). k % 2 ^ m) (sum ∙ ap (λ (k : ℕ). k + (c 0 + c 1 * 2 ^ s)) scaled)
      ∙ low (c 1 * 2 ^ (d - m)) m fits

  pub beside-fits : d ≤ 32 → c 1 < 128 → c 0 + c 1 * 2 ^ s < 256 → y + y / 2 ^ (d - s) < 2 ^ 64
  beside-fits h few fits =
      let most : c 1 ≤ 127 = omega arith in
      omega (arith, sum, mul-le-mul_right (2 ^ d) most, pow_mono {i = d} {j = 32} h)

-- y is two pairs
module _ (w : ℕ) (t : ℕ → Bool) (y : ℕ) (some : 1 < w) (e : y ≡ slots 2 (2 * w) (pair t)) where
  room : pair t 0 < 2 ^ (2 * w - 2)
  room = lt_of_lt_of_le (pair_lt t 0) (pow_mono {i = 2} {j = 2 * w - 2} (omega arith))

  pub four_fits : w ≤ 16 → y + y / 2 ^ (2 * w - 2) < 2 ^ 64
  four_fits h =
      beside-fits (2 * w) 2 (pair t) y (omega arith) room e (omega arith) (omega (arith, pair_lt t 1))
      (omega (arith, pair_lt t 0, pair_lt t 1))

  pub four_tests : (y + y / 2 ^ (2 * w - 2)) % 16 ≡ word 4 t
  four_tests =
      beside (2 * w) 2 (pair t) y (omega arith) room e 4 (omega arith) (omega (arith, pair_lt t 0, pair_lt t 1))
      ∙ word_four t

-- the bits of tests 4 × i to 4 × i + 3
unfoldable pub fours : (ℕ → Bool) → ℕ → ℕ
fours t i = pair t (2 * i) + pair t (2 * i + 1) * 4

fours_lt : (t : ℕ → Bool) (i : ℕ) → fours t i < 16
unfolding fours
fours_lt t i = omega (arith, pair_lt t (2 * i), pair_lt t (2 * i + 1))

-- y is four pairs: two and two of them make two fours, and these a byte
module _ (w : ℕ) (t : ℕ → Bool) (y : ℕ) (some : 0 < w) (e : y ≡ slots 4 (2 * w) (pair t)) where
  pub folded : bit_and y (3 * slots 2 (2 * (2 * w)) (λ i. 1))
      + bit_and (y / 2 ^ (2 * w)) (3 * slots 2 (2 * (2 * w)) (λ i. 1)) * 4 ≡ slots 2 (2 * (2 * w)) (fours t)
  unfolding fours
  folded = fold 2 (2 * w) 2 (pair t) y (omega arith) (λ i l. pair_lt t i) e

  pub folded_fits : w ≤ 8 → slots 2 (2 * (2 * w)) (fours t) < 2 ^ 64
  folded_fits h =
      lt_of_lt_of_le
      (slots_lt 2 (2 * (2 * w)) (fours t)
      (λ i l. lt_of_lt_of_le (fours_lt t i) (pow_mono {i = 4} {j = 2 * (2 * w)} (omega arith))))
      (pow_mono {i = 2 * (2 * (2 * w))} {j = 64} (omega arith))

  pub eight_tests : (z : ℕ) → z ≡ slots 2 (2 * (2 * w)) (fours t) → z % 16 + z / 2 ^ (2 * (2 * w)) * 16 ≡ word 8 t
  unfolding fours
  eight_tests z f = rw f (join (2 * (2 * w)) 4 (fours t) (omega arith) (fours_lt t 0)) ∙ word_eight t

pub twos_fit : (w : ℕ) → 0 < w → w ≤ 8 → 3 * slots 2 (2 * (2 * w)) (λ i. 1) < 2 ^ 64
twos_fit w some h =
    every-fits 2 (2 * (2 * w)) (2 * w) 3 (omega arith) (omega arith)
    (omega (arith, pow_mono {i = 1} {j = 2 * w} (omega arith)))

-- the bits of every second test, from test k on
unfoldable pub seconds : (ℕ → Bool) → ℕ → ℕ
seconds t k = flag (t (0 + k)) + flag (t (2 + k)) * 4 + flag (t (4 + k)) * 16 + flag (t (6 + k)) * 64

seconds_lt : (t : ℕ → Bool) (k : ℕ) → seconds t k < 86
unfolding seconds
seconds_lt t k = omega (arith, flag_lt (t (0 + k)), flag_lt (t (2 + k)), flag_lt (t (4 + k)), flag_lt (t (6 + k)))

word-seconds : (t : ℕ → Bool) → seconds t 0 + seconds t 1 * 2 ≡ word 8 t
unfolding seconds word
word-seconds t = omega arith

-- y is four times two tests, in slots of w + 1 bits: those of the upper slot come down between those of the lower one
module _ (w : ℕ) (t : ℕ → Bool) (y : ℕ) (some : 7 ≤ w)
    (e : y
    ≡ slots 2 (w + 1) (λ i. flag (t (0 + i))) + slots 2 (w + 1) (λ i. flag (t (2 + i))) * 4
    + slots 2 (w + 1) (λ i. flag (t (4 + i))) * 16 + slots 2 (w + 1) (λ i. flag (t (6 + i))) * 64) where
  gathered : y ≡ slots 2 (w + 1) (seconds t)
  unfolding seconds
  gathered =
      let d : ℕ = w + 1 in
      let at : (k : ℕ) → ℕ → ℕ = λ k i. flag (t (k + i)) in
      let two : (k c : ℕ) → slots 2 d (at k) * c ≡ slots 2 d (λ i. at k i * c) = λ k c. slots_mul 2 d (at k) c in
      e
      ∙ rw (
        two 2 4,
        two 4 16,
        two 6 64,
        slots_add 2 d (at 0) (λ i. at 2 i * 4),
        slots_add 2 d (λ i. at 0 i + at 2 i * 4) (λ i. at 4 i * 16),
        slots_add 2 d (λ i. at 0 i + at 2 i * 4 + at 4 i * 16) (λ i. at 6 i * 64),
      )

  below : w + 1 - 1 ≡ w
  below = omega arith

  small : seconds t 0 < 2 ^ (w + 1 - 1)
  small = rw (below) (omega (arith, seconds_lt t 0, pow_mono {i = 7} {j = w} some))

  pub second_fits : w < 32 → y + y / 2 ^ w < 2 ^ 64
  second_fits h =
      rw (below) at
      (beside-fits (w + 1) 1 (seconds t) y (omega arith) small gathered (omega arith)
      (omega (arith, seconds_lt t 1)) (omega (arith, seconds_lt t 0, seconds_lt t 1)))

  pub second_tests : (y + y / 2 ^ w) % 256 ≡ word 8 t
  second_tests =
      rw (below) at
      (beside (w + 1) 1 (seconds t) y (omega arith) small gathered 8 (omega arith)
      (omega (arith, seconds_lt t 0, seconds_lt t 1))) ∙ word-seconds t

-- the tests of two entries, one in each slot
pub two_le : (d : ℕ) (t : ℕ → Bool) (r : ℕ) → d ≤ 32 → r ≡ slots 2 d (λ i. flag (t i)) → r ≤ 4294967297
unfolding slots joined tabulate
two_le d t r h e =
    let few : flag (t 1) + 0 * 2 ^ d ≤ 1 = omega (arith, flag_lt (t 1), zero-mul (2 ^ d)) in
    omega (arith, flag_lt (t 0), mul-le-mul_right (2 ^ d) few, pow_mono {i = d} {j = 32} h)
