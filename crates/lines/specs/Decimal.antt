-- The fewest digits that hold a number are those that `decimal` spells.
use Rattle.std.specs.Prelude.{◌≡◌, refl, Bool, true, false, cond, ℕ, zero, suc, ◌-◌, ◌/◌, ◌^◌, ◌≤◌, ◌<◌, ltb}
use Rattle.std.proofs.Common.{ap, pow-suc, arith, ltb-true, ltb-false}
use Rattle.io.specs.Digits.{IsDigitCount, last_digits}
use Rattle.lines.specs.Text.{places, decimal}

pow_pos : (k : ℕ) → 0 < 10 ^ k
pow_pos zero = omega arith
pow_pos (suc k) = omega (arith, pow-suc 10 k, pow_pos k)

-- below ten there is one digit
one-digit : (n k : ℕ) → n < 10 → IsDigitCount 10 1 n k → k ≡ 1
one-digit n zero h f = omega (arith, f.0)
one-digit n (suc zero) h f = omega arith
one-digit n (suc (suc k)) h f =
    let less : suc (suc k) - 1 ≡ suc k = omega arith in
    absurd (omega (arith, rw less at (f.2 (omega arith)), pow-suc 10 k, pow_pos k))

-- from ten on one digit more than the tenth has
fewer : (n k : ℕ) → 10 ≤ n → IsDigitCount 10 1 n (suc (suc k)) → IsDigitCount 10 1 (n / 10) (suc k)
fewer n k h f =
    let one : suc k - 1 ≡ k = omega arith in
    let two : suc (suc k) - 1 ≡ suc k = omega arith in (
      omega arith,
      omega (arith, f.1, pow-suc 10 (suc k)),
      λ more. rw one (omega (arith, rw two at (f.2 (omega arith)), pow-suc 10 k)),
    )

digits_of : (n p k : ℕ) (t : Bool) → ltb n 10 ≡ t → ((j : ℕ) → IsDigitCount 10 1 (n / 10) j → j ≡ p) → IsDigitCount 10 1 n k
    → k ≡ cond t 1 (suc p)
digits_of n p k true e tenth f = one-digit n k (ltb-true n 10 e) f
digits_of n p zero false e tenth f = absurd (omega (arith, f.0))
digits_of n p (suc zero) false e tenth f = absurd (omega (arith, ltb-false n 10 e, f.1))
digits_of n p (suc (suc k)) false e tenth f = ap suc (tenth (suc k) (fewer n k (ltb-false n 10 e) f))

fewest_places : (most n k : ℕ) → n < 10 ^ suc most → IsDigitCount 10 1 n k → k ≡ places most n
unfolding places
fewest_places zero n k h f = one-digit n k (omega (arith, h)) f
fewest_places (suc most) n k h f =
    digits_of n (places most (n / 10)) k (ltb n 10) refl
    (λ j g. fewest_places most (n / 10) j (omega (arith, h, pow-suc 10 (suc most))) g) f

pub decimal_is : (n k : ℕ) → n < 10 ^ 20 → IsDigitCount 10 1 n k → last_digits 10 k n ≡ decimal n
unfolding decimal
decimal_is n k h f = ap (λ j. last_digits 10 j n) (fewest_places 19 n k h f)
