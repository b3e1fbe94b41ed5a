-- Entries of one word tested at once: what a slot's test says, that no slot reaches the next, and the tests of even
-- and odd entries together.
use Rattle.std.specs.Prelude.{◌≡◌, ℕ, ◌+◌, ◌-◌, ◌*◌, ◌/◌, ◌%◌, ◌^◌, ◌<◌, ◌≤◌, min, Bool, bit_and}
use Rattle.std.proofs.Common.{sym, ◌∙◌, add-zero, zero-mul, one-mul, div-one, mod-lt, lt_of_lt_of_le, arith, pow_pos, pow-add, pow_mono, shr-shr}
use Rattle.std.proofs.Math.Path.{ap, ap₂}
use Rattle.std.proofs.Math.Nat.{mul_assoc, mul_comm, add-mul}
use Rattle.std.proofs.Math.Pow.{split, mod-mod-pow}
use Rattle.std.proofs.lemmas.Nat.{mod-pow-add, shl-shr, and_block, and_le_l, and_shr}
use Rattle.std.specs.Int.Bits.{and_zero_l, and_zero_r}
use Rattle.rules.specs.Bits.{flag, tabulate, joined}
use Rattle.words.specs.Bits.{flag_lt}
use Rattle.compare.specs.Range.{inside}
use Rattle.compare.specs.Inside.{Place, place, inside-cut}
use Rattle.compare.specs.Inside.Place.{low as below, high as above, within}
use Rattle.packed_kernels.specs.Slots.{slots, slots-ext, slots_lt, slots_add, slots_sub, slots_mul}
use Rattle.packed_kernels.specs.Slots.{slots_and, slots_mask, slot-low, every}

-- does the j-th number of w bits in x lie from lo to hi
unfoldable pub tested : ℕ → ℕ → ℕ → ℕ → ℕ → Bool
tested lo hi w x j = inside lo hi (x / 2 ^ (j * w) % 2 ^ w)

-- the bits of tests 2 × i and 2 × i + 1
unfoldable pub pair : (ℕ → Bool) → ℕ → ℕ
pair t i = flag (t (2 * i)) + flag (t (2 * i + 1)) * 2

-- ---- one slot's test: bit w of x + (2 ^ w - lo) says lo ≤ x, and bit w of 2 ^ w + hi - x says x ≤ hi

-- bit w of both numbers, of which each is a digit and w bits
tops : (w a b r s : ℕ) → r < 2 ^ w → s < 2 ^ w
    → bit_and (bit_and (a * 2 ^ w + r) (b * 2 ^ w + s)) (2 ^ w) ≡ bit_and (bit_and a b) 1 * 2 ^ w
tops w a b r s hr hs =
    let top : 2 ^ w ≡ 1 * 2 ^ w + 0 = omega arith in
    let small : bit_and r s < 2 ^ w = omega (arith, and_le_l r s) in
    ap₂ bit_and (and_block w a b r s hr hs) top ∙ and_block w (bit_and a b) 1 (bit_and r s) 0 small (pow_pos w)
    ∙ rw (and_zero_r (bit_and r s), add-zero)

pub slot_test : (w lo hi x : ℕ) → x < 2 ^ w → lo ≤ 2 ^ w → hi < 2 ^ w
    → bit_and (bit_and (x + (2 ^ w - lo)) (2 ^ w + hi - x)) (2 ^ w) ≡ flag (inside lo hi x) * 2 ^ w
slot_test w lo hi x hx hl hh = go (place lo hi x)
  where
    digits : (p q a b r s : ℕ) → p ≡ a * 2 ^ w + r → q ≡ b * 2 ^ w + s → r < 2 ^ w → s < 2 ^ w
        → bit_and (bit_and p q) (2 ^ w) ≡ bit_and (bit_and a b) 1 * 2 ^ w
    digits p q a b r s e f hr hs = ap₂ (λ (u v : ℕ). bit_and (bit_and u v) (2 ^ w)) e f ∙ tops w a b r s hr hs

    go : Place lo hi x → bit_and (bit_and (x + (2 ^ w - lo)) (2 ^ w + hi - x)) (2 ^ w) ≡ flag (inside lo hi x) * 2 ^ w
    go (below h k) =
        let p : ℕ = x + (2 ^ w - lo) in
        let q : ℕ = 2 ^ w + hi - x in
        digits p q 0 (q / 2 ^ w) p (q % 2 ^ w) (omega arith) (sym (split q w)) (omega arith) (mod-lt q (pow_pos w))
        ∙ rw (and_zero_l (q / 2 ^ w), k)
    go (above h k) =
        let p : ℕ = x + (2 ^ w - lo) in
        let q : ℕ = 2 ^ w + hi - x in
        digits p q (p / 2 ^ w) 0 (p % 2 ^ w) q (sym (split p w)) (omega arith) (mod-lt p (pow_pos w)) (omega arith)
        ∙ rw (and_zero_r (p / 2 ^ w), k)
    go (within h i k) =
        let p : ℕ = x + (2 ^ w - lo) in
        let q : ℕ = 2 ^ w + hi - x in
        digits p q 1 1 (x - lo) (hi - x) (omega arith) (omega arith) (omega arith) (omega arith) ∙ rw k

-- ---- n entries, w bits each, in slots of d bits

-- the w low bits of slot i
abbrev pub held : ℕ → ℕ → ℕ → ℕ → ℕ
held d w x i = x / 2 ^ (i * d) % 2 ^ w

pub held_lt : (d w x i : ℕ) → held d w x i < 2 ^ w
held_lt d w x i = mod-lt (x / 2 ^ (i * d)) (pow_pos w)

-- a slot has room for a number of w + 1 bits
room : (d w : ℕ) {x : ℕ} → w < d → x < 2 ^ w * 2 → x < 2 ^ d
room d w {x} wide h =
    let more : 2 ^ (w + 1) ≤ 2 ^ d = pow_mono {i = w + 1} {j = d} (omega arith) in
    omega (arith, pow-add 2 w 1)

pub every-fits : (n d w c : ℕ) → w < d → n * d ≤ 64 → c < 2 ^ w * 2 → c * slots n d (λ i. 1) < 2 ^ 64
every-fits n d w c wide fits h =
    rw (every n d c)
    (lt_of_lt_of_le (slots_lt n d (λ i. c) (λ i l. room d w wide h)) (pow_mono {i = n * d} {j = 64} fits))

module _ (n d w lo hi : ℕ) (wide : w < d) (hl : lo ≤ 2 ^ w) (hh : hi < 2 ^ w) where
  module _ (f : ℕ → ℕ) (hf : (i : ℕ) → i < n → f i < 2 ^ w) where
    -- nothing is borrowed
    no_borrow : slots n d f ≤ (2 ^ w + hi) * slots n d (λ i. 1)
    no_borrow =
        let e : (2 ^ w + hi) * slots n d (λ i. 1) ≡ slots n d (λ i. 2 ^ w + hi) = every n d (2 ^ w + hi) in
        omega (arith, slots_sub n d (λ i. 2 ^ w + hi) f (λ i l. omega (arith, hf i l)))

    -- the sum fits
    no-carry : slots n d f + (2 ^ w - lo) * slots n d (λ i. 1) < 2 ^ (n * d)
    no-carry =
        let e : (2 ^ w - lo) * slots n d (λ i. 1) ≡ slots n d (λ i. 2 ^ w - lo) = every n d (2 ^ w - lo) in
        rw (e, slots_add n d f (λ i. 2 ^ w - lo))
        (slots_lt n d (λ i. f i + (2 ^ w - lo)) (λ i l. room d w wide (omega (arith, hf i l))))

    -- both ends' tests of all slots at once
    slots-test :
        bit_and
        (bit_and (slots n d f + (2 ^ w - lo) * slots n d (λ i. 1))
        ((2 ^ w + hi) * slots n d (λ i. 1) - slots n d f) / 2 ^ w) (slots n d (λ i. 1))
        ≡ slots n d (λ i. flag (inside lo hi (f i)))
    slots-test =
        let ones : ℕ = slots n d (λ i. 1) in
        let p : ℕ → ℕ = λ i. f i + (2 ^ w - lo) in
        let q : ℕ → ℕ = λ i. 2 ^ w + hi - f i in
        let ge : (2 ^ w - lo) * ones ≡ slots n d (λ i. 2 ^ w - lo) = every n d (2 ^ w - lo) in
        let le : (2 ^ w + hi) * ones ≡ slots n d (λ i. 2 ^ w + hi) = every n d (2 ^ w + hi) in
        let sum : slots n d f + (2 ^ w - lo) * ones ≡ slots n d p =
        ap (λ (x : ℕ). slots n d f + x) ge ∙ slots_add n d f (λ i. 2 ^ w - lo) in
        let rest : (2 ^ w + hi) * ones - slots n d f ≡ slots n d q =
        omega (arith, slots_sub n d (λ i. 2 ^ w + hi) f (λ i l. omega (arith, hf i l))) in
        let hp : (i : ℕ) → i < n → p i < 2 ^ d = λ i l. room d w wide (omega (arith, hf i l)) in
        let hq : (i : ℕ) → i < n → q i < 2 ^ d = λ i l. room d w wide (omega (arith, hf i l)) in
        let ht : (i : ℕ) → i < n → 2 ^ w < 2 ^ d = λ i l. room d w wide (omega (arith, pow_pos w)) in
        let hpq : (i : ℕ) → i < n → bit_and (p i) (q i) < 2 ^ d = λ i l. omega (arith, and_le_l (p i) (q i), hp i l) in
        let both : bit_and (slots n d p) (slots n d q) ≡ slots n d (λ i. bit_and (p i) (q i)) =
        slots_and n d p q hp hq in
        let marked : bit_and (slots n d (λ i. bit_and (p i) (q i))) (ones * 2 ^ w)
        ≡ slots n d (λ i. flag (inside lo hi (f i))) * 2 ^ w =
        ap (bit_and (slots n d (λ i. bit_and (p i) (q i)))) (mul_comm ones (2 ^ w) ∙ every n d (2 ^ w))
        ∙ slots_and n d (λ i. bit_and (p i) (q i)) (λ i. 2 ^ w) hpq ht
        ∙ slots-ext n d (λ i l. slot_test w lo hi (f i) (hf i l) hl hh)
        ∙ sym (slots_mul n d (λ i. flag (inside lo hi (f i))) (2 ^ w)) in
        let down : bit_and (bit_and (slots n d p) (slots n d q) / 2 ^ w) ones
        ≡ bit_and (bit_and (slots n d p) (slots n d q)) (ones * 2 ^ w) / 2 ^ w =
        ap (bit_and (bit_and (slots n d p) (slots n d q) / 2 ^ w)) (sym (shl-shr ones w))
        ∙ sym (and_shr (bit_and (slots n d p) (slots n d q)) (ones * 2 ^ w) w) in
        ap₂ (λ (u v : ℕ). bit_and (bit_and u v / 2 ^ w) ones) sum rest
        ∙ down
        ∙ ap (λ (x : ℕ). bit_and x (ones * 2 ^ w) / 2 ^ w) both
        ∙ ap (λ (x : ℕ). x / 2 ^ w) marked
        ∙ shl-shr (slots n d (λ i. flag (inside lo hi (f i)))) w

-- a word that holds nothing but its entries, each in its slot
module _ (n d w lo hi a : ℕ) (wide : w < d) (e : a ≡ slots n d (held d w a)) where
  low_fits : min lo (2 ^ w) ≤ 2 ^ w
  low_fits = omega arith

  high_fits : min hi (2 ^ w - 1) < 2 ^ w
  high_fits = omega (arith, pow_pos w)

  pub sum_fits : n * d ≤ 64 → a + (2 ^ w - min lo (2 ^ w)) * slots n d (λ i. 1) < 2 ^ 64
  sum_fits fits =
      let l =
      lt_of_lt_of_le
      (no-carry n d w (min lo (2 ^ w)) (min hi (2 ^ w - 1)) wide low_fits high_fits (held d w a)
      (λ i l. held_lt d w a i)) (pow_mono {i = n * d} {j = 64} fits) in
      omega (arith, e, l)

  pub rest-fits : a ≤ (2 ^ w + min hi (2 ^ w - 1)) * slots n d (λ i. 1)
  rest-fits =
      omega (
        arith,
        e,
        no_borrow n d w (min lo (2 ^ w)) (min hi (2 ^ w - 1)) wide low_fits high_fits (held d w a)
            (λ i l. held_lt d w a i),
      )

  pub all_tested :
      bit_and
      (bit_and (a + (2 ^ w - min lo (2 ^ w)) * slots n d (λ i. 1))
      ((2 ^ w + min hi (2 ^ w - 1)) * slots n d (λ i. 1) - a) / 2 ^ w) (slots n d (λ i. 1))
      ≡ slots n d (λ i. flag (inside lo hi (held d w a i)))
  all_tested =
      ap
      (λ (x : ℕ). bit_and
      (bit_and (x + (2 ^ w - min lo (2 ^ w)) * slots n d (λ i. 1))
      ((2 ^ w + min hi (2 ^ w - 1)) * slots n d (λ i. 1) - x) / 2 ^ w) (slots n d (λ i. 1))) e
      ∙ slots-test n d w (min lo (2 ^ w)) (min hi (2 ^ w - 1)) wide low_fits high_fits (held d w a)
      (λ i l. held_lt d w a i)
      ∙ slots-ext n d (λ i l. ap flag (inside-cut w lo hi (held d w a i) (held_lt d w a i)))

-- slots of entries hold them
module _ (n d w : ℕ) (f : ℕ → ℕ) (a : ℕ) (wide : w < d) (small : (i : ℕ) → i < n → f i < 2 ^ w)
    (e : a ≡ slots n d f) where
  pub holds : (i : ℕ) → i < n → held d w a i ≡ f i
  holds i l = ap (λ (x : ℕ). held d w x i) e ∙ slot-low n d w f i (omega arith) l small

  pub holds_all : a ≡ slots n d (held d w a)
  holds_all = e ∙ slots-ext n d (λ i l. sym (holds i l))

  pub tests_all : (lo hi : ℕ)
      → slots n d (λ i. flag (inside lo hi (held d w a i))) ≡ slots n d (λ i. flag (inside lo hi (f i)))
  tests_all lo hi = slots-ext n d (λ i l. ap (λ (x : ℕ). flag (inside lo hi x)) (holds i l))

-- the first two numbers of w bits in x, a bit apart: the second one is added to itself
pub apart : (w x : ℕ) → let y = x % 2 ^ (2 * w) in y + (y - y % 2 ^ w) ≡ slots 2 (w + 1) (held w w x)
unfolding slots joined tabulate
apart w x =
    let y : ℕ = x % 2 ^ (2 * w) in
    let size : 2 * w ≡ w + w = omega arith in
    let whole : y ≡ x / 2 ^ w % 2 ^ w * 2 ^ w + x % 2 ^ w = ap (λ (k : ℕ). x % 2 ^ k) size ∙ mod-pow-add x w w in
    let lower : y % 2 ^ w ≡ x % 2 ^ w = ap (λ (k : ℕ). x % 2 ^ k % 2 ^ w) size ∙ mod-mod-pow x w w in
    let twice : (x / 2 ^ w % 2 ^ w + 0 * 2 ^ (w + 1)) * 2 ^ (w + 1) ≡ x / 2 ^ w % 2 ^ w * 2 ^ w * 2 =
    rw (zero-mul (2 ^ (w + 1)), add-zero, pow-add 2 w 1) (sym (mul_assoc (x / 2 ^ w % 2 ^ w) (2 ^ w) 2)) in
    rw (zero-mul w, one-mul w, div-one x) (omega (arith, lower, whole, twice))

-- ---- the entries of a word, even and odd ones apart

module _ (n w : ℕ) (some : 0 < w) where
  -- every second number of w bits in x, in slots of twice their width
  pub evens : (x : ℕ) → bit_and x ((2 ^ w - 1) * slots n (2 * w) (λ i. 1)) ≡ slots n (2 * w) (held (2 * w) w x)
  evens x = ap (bit_and x) (every n (2 * w) (2 ^ w - 1)) ∙ slots_mask n (2 * w) w x (omega arith)

  -- even and odd ones together
  pub pairs : (lo hi x : ℕ)
      → slots n (2 * w) (λ i. flag (inside lo hi (held (2 * w) w x i)))
      + slots n (2 * w) (λ i. flag (inside lo hi (held (2 * w) w (x / 2 ^ w) i))) * 2
      ≡ slots n (2 * w) (pair (tested lo hi w x))
  unfolding pair tested
  pairs lo hi x =
      let f : ℕ → ℕ = λ i. flag (inside lo hi (held (2 * w) w x i)) in
      let g : ℕ → ℕ = λ i. flag (inside lo hi (held (2 * w) w (x / 2 ^ w) i)) in
      let even : (i : ℕ) → i * (2 * w) ≡ 2 * i * w = λ i. rw (← mul_assoc, mul_comm i) in
      let odd : (i : ℕ) → w + i * (2 * w) ≡ (2 * i + 1) * w = λ i. omega (arith, add-mul (2 * i) 1 w, even i) in
      let here : (i : ℕ) → f i ≡ flag (inside lo hi (x / 2 ^ (2 * i * w) % 2 ^ w)) =
      λ i. ap (λ (k : ℕ). flag (inside lo hi (x / 2 ^ k % 2 ^ w))) (even i) in
      let next : (i : ℕ) → g i ≡ flag (inside lo hi (x / 2 ^ ((2 * i + 1) * w) % 2 ^ w)) =
      λ i. ap (λ (k : ℕ). flag (inside lo hi (k % 2 ^ w)))
      (shr-shr x w (i * (2 * w)) ∙ ap (λ (k : ℕ). x / 2 ^ k) (odd i)) in
      ap (λ (k : ℕ). slots n (2 * w) f + k) (slots_mul n (2 * w) g 2) ∙ slots_add n (2 * w) f (λ i. g i * 2)
      ∙ slots-ext n (2 * w) (λ i l. ap₂ (λ (p q : ℕ). p + q * 2) (here i) (next i))

pub pair_lt : (t : ℕ → Bool) (i : ℕ) → pair t i < 4
unfolding pair
pair_lt t i = omega (arith, flag_lt (t (2 * i)), flag_lt (t (2 * i + 1)))

pub pairs-fit : (n w : ℕ) (t : ℕ → Bool) → 0 < w → n * (2 * w) ≤ 64 → slots n (2 * w) (pair t) < 2 ^ 64
pairs-fit n w t some fits =
    lt_of_lt_of_le
    (slots_lt n (2 * w) (pair t)
    (λ i l. lt_of_lt_of_le (pair_lt t i) (pow_mono {i = 2} {j = 2 * w} (omega arith))))
    (pow_mono {i = n * (2 * w)} {j = 64} fits)
