-- Numbers that are not 0: sums, multiples, and the bits of either of two numbers that a mask has.
use Rattle.std.specs.Prelude.{◌≡◌, refl, Bool, ◌||◌, ℕ, zero, suc, ◌+◌, ◌*◌, ◌/◌, ◌%◌, ◌<◌, max, ltb}
use Rattle.std.proofs.Common.{sym, ap, ap₂, ◌∙◌, zero-add, zero-mul, suc-mul, arith, lt-ltb}
use Rattle.std.proofs.Math.Arith.{bin_ind}
use Rattle.std.specs.Int.Bits.{bit_and, bit_or, and_step, or_step, and_zero_r, or_add_and}
use Rattle.std.proofs.lemmas.Nat.{and_le_r}

pub any_add : (a b : ℕ) → ltb 0 (a + b) ≡ (ltb 0 a || ltb 0 b)
any_add zero b = ap (ltb 0) (zero-add b)
any_add (suc a) b =
    lt-ltb 0 (suc a + b) (omega arith) ∙ ap (λ (t : Bool). t || ltb 0 b) (sym (lt-ltb 0 (suc a) (omega arith)))

pub any_mul : (a p : ℕ) → 0 < p → ltb 0 (a * p) ≡ ltb 0 a
any_mul zero p h = ap (ltb 0) (zero-mul p)
any_mul (suc a) p h = lt-ltb 0 (suc a * p) (omega (arith, suc-mul a p)) ∙ sym (lt-ltb 0 (suc a) (omega arith))

pub any_or : (a b : ℕ) → ltb 0 (bit_or a b) ≡ (ltb 0 a || ltb 0 b)
any_or zero b = refl
any_or (suc a) b =
    lt-ltb 0 (bit_or (suc a) b) (omega (arith, or_add_and (suc a) b, and_le_r (suc a) b))
    ∙ ap (λ (t : Bool). t || ltb 0 b) (sym (lt-ltb 0 (suc a) (omega arith)))

-- bits of either number, where a mask has them
masked_or : (m a b : ℕ) → bit_and (bit_or a b) m ≡ bit_or (bit_and a m) (bit_and b m)
masked_or =
    bin_ind (λ (m : ℕ). (a b : ℕ) → bit_and (bit_or a b) m ≡ bit_or (bit_and a m) (bit_and b m))
    (λ a b. and_zero_r (bit_or a b) ∙ sym (ap₂ bit_or (and_zero_r a) (and_zero_r b)))
    (λ m rest a b.
    let high : bit_or a b / 2 ≡ bit_or (a / 2) (b / 2) = omega (arith, or_step a b) in
    let low : bit_or a b % 2 ≡ max (a % 2) (b % 2) = omega (arith, or_step a b) in
    let left : bit_and a m / 2 ≡ bit_and (a / 2) (m / 2) = omega (arith, and_step a m) in
    let right : bit_and b m / 2 ≡ bit_and (b / 2) (m / 2) = omega (arith, and_step b m) in
    omega (
      arith,
      and_step (bit_or a b) m,
      ap (λ (x : ℕ). bit_and x (m / 2)) high ∙ rest (a / 2) (b / 2) ∙ sym (ap₂ bit_or left right),
      low,
      or_step (bit_and a m) (bit_and b m),
      and_step a m,
      and_step b m,
    ))

pub any_masked : (m a b : ℕ) → ltb 0 (bit_and (bit_or a b) m) ≡ (ltb 0 (bit_and a m) || ltb 0 (bit_and b m))
any_masked m a b = ap (ltb 0) (masked_or m a b) ∙ any_or (bit_and a m) (bit_and b m)
