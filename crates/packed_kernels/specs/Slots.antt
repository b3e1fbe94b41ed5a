-- Numbers side by side in one word, each in a slot of d bits, and the laws of such words over the number of slots
-- and their size.
use Rattle.std.specs.Prelude.{◌≡◌, ℕ, zero, suc, ◌+◌, ◌-◌, ◌*◌, ◌/◌, ◌%◌, ◌^◌, ◌<◌, ◌≤◌, bit_and, refl}
use Rattle.std.proofs.Common.{sym, ap, ap₂, ◌∙◌, not-suc-le-zero, mul_assoc, mul_comm, add-mul, mul-add, zero-mul, add_comm, pow-suc, suc-mul, one-mul, mod-lt, lt_of_lt_of_le, mod-eq_of_lt, div-one, arith, pow_pos, pow-add, pow_mono, shr-shr}
use Rattle.std.proofs.Math.Arith.{digits_lt}
use Rattle.std.proofs.Math.Pow.{split, high, low, mod-mod-pow}
use Rattle.std.proofs.lemmas.Nat.{and_block, and_mask}
use Rattle.std.specs.Int.Bits.{and_zero_r}
use Rattle.rules.specs.Bits.{tabulate, joined}

-- the word whose slot i, for i below n, holds f i
unfoldable pub slots : ℕ → ℕ → (ℕ → ℕ) → ℕ
slots n d f = joined d (tabulate n f)

-- a remainder of a remainder
pub mod_low : (x b d : ℕ) → b ≤ d → x % 2 ^ d % 2 ^ b ≡ x % 2 ^ b
mod_low x b d h =
    let size : d ≡ d - b + b = omega arith in
    ap (λ (k : ℕ). x % 2 ^ k % 2 ^ b) size ∙ mod-mod-pow x (d - b) b

-- slots that agree
pub slots-ext : (n d : ℕ) {f g : ℕ → ℕ} → ((i : ℕ) → i < n → f i ≡ g i) → slots n d f ≡ slots n d g
unfolding slots joined tabulate
slots-ext zero d h = refl
slots-ext (suc n) d h =
    ap₂ (λ (x y : ℕ). x + y * 2 ^ d) (h zero (omega arith)) (slots-ext n d (λ i l. h (suc i) (omega arith)))

pub slots_lt : (n d : ℕ) (f : ℕ → ℕ) → ((i : ℕ) → i < n → f i < 2 ^ d) → slots n d f < 2 ^ (n * d)
unfolding slots joined tabulate
slots_lt zero d f h = rw (zero-mul) (omega arith)
slots_lt (suc n) d f h =
    rw (suc-mul, pow-add)
    (rw (add_comm (f zero))
    (digits_lt (slots_lt n d (λ i. f (suc i)) (λ i l. h (suc i) (omega arith))) (h zero (omega arith))))

-- sums, slot by slot
pub slots_add : (n d : ℕ) (f g : ℕ → ℕ) → slots n d f + slots n d g ≡ slots n d (λ i. f i + g i)
unfolding slots joined tabulate
slots_add zero d f g = refl
slots_add (suc n) d f g =
    let u : ℕ = slots n d (λ i. f (suc i)) in
    let v : ℕ = slots n d (λ i. g (suc i)) in
    let e : (u + v) * 2 ^ d ≡ u * 2 ^ d + v * 2 ^ d = add-mul u v (2 ^ d) in
    omega (arith, ap (λ (x : ℕ). x * 2 ^ d) (slots_add n d (λ i. f (suc i)) (λ i. g (suc i))))

-- differences, where no slot borrows
pub slots_sub : (n d : ℕ) (f g : ℕ → ℕ) → ((i : ℕ) → i < n → g i ≤ f i)
    → slots n d g + slots n d (λ i. f i - g i) ≡ slots n d f
slots_sub n d f g h = slots_add n d g (λ i. f i - g i) ∙ slots-ext n d (λ i l. omega (arith, h i l))

-- one factor for all slots
pub slots_mul : (n d : ℕ) (f : ℕ → ℕ) (c : ℕ) → slots n d f * c ≡ slots n d (λ i. f i * c)
unfolding slots joined tabulate
slots_mul zero d f c = zero-mul c
slots_mul (suc n) d f c =
    let u : ℕ = slots n d (λ i. f (suc i)) in
    let e : u * 2 ^ d * c ≡ u * c * 2 ^ d = rw (mul_assoc, mul_comm (2 ^ d), ← mul_assoc) in
    add-mul (f zero) (u * 2 ^ d) c
    ∙ ap (λ (x : ℕ). f zero * c + x) (e ∙ ap (λ (x : ℕ). x * 2 ^ d) (slots_mul n d (λ i. f (suc i)) c))

-- `and`, slot by slot
pub slots_and : (n d : ℕ) (f g : ℕ → ℕ) → ((i : ℕ) → i < n → f i < 2 ^ d) → ((i : ℕ) → i < n → g i < 2 ^ d)
    → bit_and (slots n d f) (slots n d g) ≡ slots n d (λ i. bit_and (f i) (g i))
unfolding slots joined tabulate
slots_and zero d f g hf hg = refl
slots_and (suc n) d f g hf hg =
    let u : ℕ = slots n d (λ i. f (suc i)) in
    let v : ℕ = slots n d (λ i. g (suc i)) in
    ap₂ bit_and (add_comm (f zero) (u * 2 ^ d)) (add_comm (g zero) (v * 2 ^ d))
    ∙ and_block d u v (f zero) (g zero) (hf zero (omega arith)) (hg zero (omega arith))
    ∙ add_comm (bit_and u v * 2 ^ d) (bit_and (f zero) (g zero))
    ∙ ap (λ (x : ℕ). bit_and (f zero) (g zero) + x * 2 ^ d)
    (slots_and n d (λ i. f (suc i)) (λ i. g (suc i)) (λ i l. hf (suc i) (omega arith))
    (λ i l. hg (suc i) (omega arith)))

-- the low b bits of each slot of any word
pub slots_mask : (n d b x : ℕ) → b ≤ d
    → bit_and x (slots n d (λ i. 2 ^ b - 1)) ≡ slots n d (λ i. x / 2 ^ (i * d) % 2 ^ b)
unfolding slots joined tabulate
slots_mask zero d b x h = and_zero_r x
slots_mask (suc n) d b x h =
    let m : ℕ = slots n d (λ i. 2 ^ b - 1) in
    let more : 2 ^ b ≤ 2 ^ d = pow_mono {i = b} {j = d} h in
    let low : x % 2 ^ d % 2 ^ b ≡ x % 2 ^ b = mod_low x b d h in
    let rest : (i : ℕ) → x / 2 ^ d / 2 ^ (i * d) % 2 ^ b ≡ x / 2 ^ (suc i * d) % 2 ^ b =
    λ i. ap (λ (k : ℕ). k % 2 ^ b) (shr-shr x d (i * d) ∙ ap (λ (k : ℕ). x / 2 ^ k) (omega (arith, suc-mul i d))) in
    let here : x % 2 ^ b ≡ x / 2 ^ (0 * d) % 2 ^ b = sym (rw (zero-mul, div-one)) in
    ap₂ bit_and (sym (split x d)) (add_comm (2 ^ b - 1) (m * 2 ^ d))
    ∙ and_block d (x / 2 ^ d) m (x % 2 ^ d) (2 ^ b - 1) (mod-lt x (pow_pos d)) (omega (arith, pow_pos b))
    ∙ add_comm (bit_and (x / 2 ^ d) m * 2 ^ d) (bit_and (x % 2 ^ d) (2 ^ b - 1))
    ∙ ap₂ (λ (p q : ℕ). p + q * 2 ^ d) (and_mask (x % 2 ^ d) b ∙ low ∙ here)
    (slots_mask n d b (x / 2 ^ d) h ∙ slots-ext n d (λ i l. rest i))

-- one slot
pub slot : (n d : ℕ) (f : ℕ → ℕ) (i : ℕ) → i < n → ((i : ℕ) → i < n → f i < 2 ^ d)
    → slots n d f / 2 ^ (i * d) % 2 ^ d ≡ f i
unfolding slots joined tabulate
slot zero d f i l h = absurd (not-suc-le-zero l)
slot (suc n) d f zero l h =
    let u : ℕ = slots n d (λ i. f (suc i)) in
    rw (zero-mul, div-one, add_comm (f zero)) (low u d (h zero (omega arith)))
slot (suc n) d f (suc i) l h =
    let u : ℕ = slots n d (λ i. f (suc i)) in
    let step : (f zero + u * 2 ^ d) / 2 ^ (suc i * d) ≡ u / 2 ^ (i * d) =
    ap (λ (k : ℕ). (f zero + u * 2 ^ d) / 2 ^ k) (suc-mul i d ∙ add_comm (i * d) d)
    ∙ sym (shr-shr (f zero + u * 2 ^ d) d (i * d))
    ∙ ap (λ (k : ℕ). k / 2 ^ (i * d)) (rw (add_comm (f zero)) (high u d (h zero (omega arith)))) in
    ap (λ (k : ℕ). k % 2 ^ d) step ∙ slot n d (λ i. f (suc i)) i (omega arith) (λ i l. h (suc i) (omega arith))

-- a slot that holds few bits
pub slot-low : (n d b : ℕ) (f : ℕ → ℕ) (i : ℕ) → b ≤ d → i < n → ((i : ℕ) → i < n → f i < 2 ^ b)
    → slots n d f / 2 ^ (i * d) % 2 ^ b ≡ f i
slot-low n d b f i h l small =
    let more : (k : ℕ) → k < n → f k < 2 ^ d = λ k m. lt_of_lt_of_le (small k m) (pow_mono {i = b} {j = d} h) in
    let x : ℕ = slots n d f / 2 ^ (i * d) in
    sym (mod_low x b d h) ∙ ap (λ (k : ℕ). k % 2 ^ b) (slot n d f i l more) ∙ mod-eq_of_lt (small i l)

-- the same number in every slot
pub every : (n d c : ℕ) → c * slots n d (λ i. 1) ≡ slots n d (λ i. c)
every n d c = mul_comm c (slots n d (λ i. 1)) ∙ slots_mul n d (λ i. 1) c ∙ slots-ext n d (λ i l. one-mul c)

-- ---- 1 in every slot

-- 1 in two slots, and in four
pub ones_two : (d : ℕ) → 1 + 2 ^ d ≡ slots 2 d (λ i. 1)
unfolding slots joined tabulate
ones_two d = omega arith

four_terms : (p : ℕ) → (1 + p) * (1 + p * p) ≡ 1 + (1 + (1 + p) * p) * p
four_terms p =
    let a : (1 + p) * (1 + p * p) ≡ (1 + p) * 1 + (1 + p) * (p * p) = mul-add (1 + p) 1 (p * p) in
    let b : (1 + p) * (p * p) ≡ (1 + p) * p * p = sym (mul_assoc (1 + p) p p) in
    let c : (1 + (1 + p) * p) * p ≡ 1 * p + (1 + p) * p * p = add-mul 1 ((1 + p) * p) p in
    omega arith

pub ones_four : (d : ℕ) → slots 2 d (λ i. 1) * slots 2 (2 * d) (λ i. 1) ≡ slots 4 d (λ i. 1)
unfolding slots joined tabulate
ones_four d =
    let p : ℕ = 2 ^ d in
    let e : 2 ^ (2 * d) ≡ p * p = ap (λ (k : ℕ). 2 ^ k) (omega arith) ∙ pow-add 2 d d in
    let z : (1 + 0 * p) * p ≡ p = rw (zero-mul p, one-mul p) in
    ap₂ (λ (x y : ℕ). x * y) (sym (ones_two d)) (sym (ones_two (2 * d)) ∙ ap (λ (k : ℕ). 1 + k) e) ∙ four_terms p
    ∙ ap (λ (k : ℕ). 1 + (1 + (1 + k) * p) * p) (sym z)

-- at d = 0 too, where the sum is 4
pub ones-fit : (d : ℕ) → d ≤ 16 → slots 4 d (λ i. 1) < 2 ^ 64
unfolding slots joined tabulate
ones-fit zero h = omega arith
ones-fit (suc d) h =
    let k : ℕ = suc d in
    lt_of_lt_of_le (slots_lt 4 k (λ i. 1) (λ i l. omega (arith, pow-suc 2 d, pow_pos d)))
    (pow_mono {i = 4 * k} {j = 64} (omega arith))
