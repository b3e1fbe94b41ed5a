-- Numbers of d bits joined to one number, over d and their count: sums, a factor for all, the low bits of each.
use Rattle.std.specs.Prelude.{◌≡◌, refl, ℕ, zero, suc, ◌+◌, ◌-◌, ◌*◌, ◌/◌, ◌%◌, ◌^◌, ◌≤◌, ◌<◌}
use Rattle.std.proofs.Common.{sym, ap, ap₂, ◌∙◌, mul_assoc, mul_comm, add-mul, zero-mul, add_comm, suc-mul, mod-lt, div-one, arith, pow_pos, pow_mono, shr-shr}
use Rattle.std.proofs.Math.Pow.{split, mod-mod-pow}
use Rattle.std.specs.Int.Bits.{bit_and, and_zero_r}
use Rattle.std.proofs.lemmas.Nat.{and_block, and_mask}
use Rattle.rules.specs.Bits.{joined, tabulate}
use Rattle.words.specs.Tabulated.{tabulate-ext}

-- n numbers of d bits, f 0 lowest
abbrev pub fields : ℕ → ℕ → (ℕ → ℕ) → ℕ
fields n d f = joined d (tabulate n f)

pub fields-ext : (n d : ℕ) (f g : ℕ → ℕ) → ((i : ℕ) → i < n → f i ≡ g i) → fields n d f ≡ fields n d g
fields-ext n d f g h = ap (joined d) (tabulate-ext n f g h)

pub fields_add : (n d : ℕ) (f g : ℕ → ℕ) → fields n d f + fields n d g ≡ fields n d (λ i. f i + g i)
unfolding joined tabulate
fields_add zero d f g = refl
fields_add (suc n) d f g =
    let u : ℕ = fields n d (λ i. f (suc i)) in
    let v : ℕ = fields n d (λ i. g (suc i)) in
    let e : (u + v) * 2 ^ d ≡ u * 2 ^ d + v * 2 ^ d = add-mul u v (2 ^ d) in
    omega (arith, ap (λ (x : ℕ). x * 2 ^ d) (fields_add n d (λ i. f (suc i)) (λ i. g (suc i))))

pub fields_mul : (n d : ℕ) (f : ℕ → ℕ) (c : ℕ) → fields n d f * c ≡ fields n d (λ i. f i * c)
unfolding joined tabulate
fields_mul zero d f c = zero-mul c
fields_mul (suc n) d f c =
    let u : ℕ = fields n d (λ i. f (suc i)) in
    let e : u * 2 ^ d * c ≡ u * c * 2 ^ d = rw (mul_assoc, mul_comm (2 ^ d), ← mul_assoc) in
    add-mul (f zero) (u * 2 ^ d) c
    ∙ ap (λ (x : ℕ). f zero * c + x) (e ∙ ap (λ (x : ℕ). x * 2 ^ d) (fields_mul n d (λ i. f (suc i)) c))

-- a remainder of a remainder
mod_low : (x b d : ℕ) → b ≤ d → x % 2 ^ d % 2 ^ b ≡ x % 2 ^ b
mod_low x b d h =
    let size : d ≡ d - b + b = omega arith in
    ap (λ (k : ℕ). x % 2 ^ k % 2 ^ b) size ∙ mod-mod-pow x (d - b) b

-- the low b bits of each field of any number
pub fields_mask : (n d b x : ℕ) → b ≤ d
    → bit_and x (fields n d (λ i. 2 ^ b - 1)) ≡ fields n d (λ i. x / 2 ^ (i * d) % 2 ^ b)
unfolding joined tabulate
fields_mask zero d b x h = and_zero_r x
fields_mask (suc n) d b x h =
    let m : ℕ = fields n d (λ i. 2 ^ b - 1) in
    let more : 2 ^ b ≤ 2 ^ d = pow_mono {i = b} {j = d} h in
    let low : x % 2 ^ d % 2 ^ b ≡ x % 2 ^ b = mod_low x b d h in
    let rest : (i : ℕ) → x / 2 ^ d / 2 ^ (i * d) % 2 ^ b ≡ x / 2 ^ (suc i * d) % 2 ^ b =
    λ i. ap (λ (k : ℕ). k % 2 ^ b) (shr-shr x d (i * d) ∙ ap (λ (k : ℕ). x / 2 ^ k) (omega (arith, suc-mul i d))) in
    let here : x % 2 ^ b ≡ x / 2 ^ (0 * d) % 2 ^ b = sym (rw (zero-mul, div-one)) in
    ap₂ bit_and (sym (split x d)) (add_comm (2 ^ b - 1) (m * 2 ^ d))
    ∙ and_block d (x / 2 ^ d) m (x % 2 ^ d) (2 ^ b - 1) (mod-lt x (pow_pos d)) (omega (arith, pow_pos b))
    ∙ add_comm (bit_and (x / 2 ^ d) m * 2 ^ d) (bit_and (x % 2 ^ d) (2 ^ b - 1))
    ∙ ap₂ (λ (p q : ℕ). p + q * 2 ^ d) (and_mask (x % 2 ^ d) b ∙ low ∙ here)
    (fields_mask n d b (x / 2 ^ d) h ∙ fields-ext n d _ _ (λ i l. rest i))
