-- A number's digits of d bits, over d: what numbers joined end to end hold at a place, and a number made again of
-- its digits.
use Rattle.std.specs.Prelude.{◌≡◌, refl, List, [], ◌∷◌, ◌++◌, ℕ, zero, suc, ◌+◌, ◌*◌, ◌/◌, ◌%◌, ◌^◌, ◌≤◌, ◌<◌, length, take, drop, get_or}
use Rattle.std.proofs.Common.{sym, ap, ap₂, ◌∙◌, add_comm, add-mul, mul_assoc, mul_comm, suc-mul, zero-mul, div-one, add-one, arith, take-add, take-suc, length-take-le, pow-add, shr-shr}
use Rattle.std.proofs.Math.Nat.{mod-one, zero-div, zero-mod}
use Rattle.std.proofs.Math.Pow.{high, low}
use Rattle.std.proofs.lemmas.Nat.{mod-pow-add}
use Rattle.rules.specs.Bits.{joined, number, bytes, tabulate}
use Rattle.words.specs.Joined.{Small, small-take, joined_lt}
use Rattle.words.specs.Tabulated.{tabulate-ext}

-- the first digit, and the digits behind it
first-digit : (d x : ℕ) → x / 2 ^ (0 * d) ≡ x
first-digit d x = ap (λ (k : ℕ). x / 2 ^ k) (zero-mul d) ∙ div-one x

next-digit : (d x i : ℕ) → x / 2 ^ (suc i * d) ≡ x / 2 ^ d / 2 ^ (i * d)
next-digit d x i = ap (λ (k : ℕ). x / 2 ^ k) (suc-mul i d ∙ add_comm (i * d) d) ∙ sym (shr-shr x d (i * d))

-- ---- numbers joined

pub joined_append : (d : ℕ) (a b : List ℕ) → joined d (a ++ b) ≡ joined d a + joined d b * 2 ^ (length a * d)
unfolding joined
joined_append d [] b = rw zero-mul (omega arith)
joined_append d (x ∷ a) b =
    let size : 2 ^ (suc (length a) * d) ≡ 2 ^ (length a * d) * 2 ^ d =
    ap (λ (n : ℕ). 2 ^ n) (suc-mul (length a) d) ∙ pow-add 2 (length a * d) d in
    rw (joined_append d a b, size, add-mul, mul_assoc) (omega arith)

-- k numbers more, and one
pub joined-more : (d i k : ℕ) (xs : List ℕ) → i ≤ length xs
    → joined d (take (i + k) xs) ≡ joined d (take k (drop i xs)) * 2 ^ (i * d) + joined d (take i xs)
joined-more d i k xs h = rw (take-add, joined_append, length-take-le i xs h) (omega arith)

pub joined-next : (d : ℕ) (xs : List ℕ) (i : ℕ) → i < length xs
    → joined d (take (i + 1) xs) ≡ get_or xs i 0 * 2 ^ (i * d) + joined d (take i xs)
unfolding joined
joined-next d xs i h = rw (add-one, take-suc xs i 0 h, joined_append, length-take-le i xs (omega arith)) (omega arith)

pub joined-below : (d : ℕ) (xs : List ℕ) → Small d xs → joined d xs < 2 ^ (length xs * d)
joined-below d xs h = rw mul_comm (joined_lt d xs h)

pub first_below : (d n : ℕ) (xs : List ℕ) → n ≤ length xs → Small d xs → joined d (take n xs) < 2 ^ (n * d)
first_below d n xs h small = rw (length-take-le n xs h) at (joined-below d (take n xs) (small-take d n xs small))

-- number i is digit i of those joined
pub joined-digit : (d : ℕ) (xs : List ℕ) (i : ℕ) → Small d xs → joined d xs / 2 ^ (i * d) % 2 ^ d ≡ get_or xs i 0
unfolding joined
joined-digit d [] i h = rw (zero-div, zero-mod)
joined-digit d (x ∷ xs) zero h = rw (first-digit, add_comm x) (low (joined d xs) d (h 0))
joined-digit d (x ∷ xs) (suc i) h =
    rw (next-digit, add_comm x, high (joined d xs) d (h 0)) (joined-digit d xs i (λ k. h (suc k)))

-- ---- a number's digits

-- digit i of x, the lowest being digit 0
abbrev pub digit : ℕ → ℕ → ℕ → ℕ
digit d x i = x / 2 ^ (i * d) % 2 ^ d

digits_suc : (d n x : ℕ) → tabulate (suc n) (digit d x) ≡ x % 2 ^ d ∷ tabulate n (digit d (x / 2 ^ d))
unfolding tabulate
digits_suc d n x =
    ap₂ (λ (y : ℕ) (l : List ℕ). y ∷ l) (ap (λ (y : ℕ). y % 2 ^ d) (first-digit d x))
    (tabulate-ext n (λ i. digit d x (suc i)) (digit d (x / 2 ^ d))
    (λ i l. ap (λ (y : ℕ). y % 2 ^ d) (next-digit d x i)))

-- n digits joined are the n low digits again
pub joined_digits : (d n x : ℕ) → joined d (tabulate n (digit d x)) ≡ x % 2 ^ (n * d)
unfolding joined tabulate
joined_digits d zero x = rw zero-mul (sym (mod-one x))
joined_digits d (suc n) x =
    ap (joined d) (digits_suc d n x)
    ∙ rw (joined_digits d n (x / 2 ^ d), add_comm, suc-mul) (sym (mod-pow-add x (n * d) d))

-- digits of 8 bits are the bytes
pub bytes_digits : (n x : ℕ) → tabulate n (digit 8 x) ≡ bytes n x
unfolding tabulate bytes
bytes_digits zero x = refl
bytes_digits (suc n) x = digits_suc 8 n x ∙ ap (λ (l : List ℕ). x % 256 ∷ l) (bytes_digits n (x / 256))

-- the bytes of the number that bytes make are these bytes
pub bytes-number : (l : List ℕ) → Small 8 l → bytes (length l) (number l) ≡ l
unfolding joined bytes
bytes-number [] h = refl
bytes-number (b ∷ l) h =
    let first : (b + number l * 256) % 256 ≡ b = omega (arith, h 0) in
    let rest : (b + number l * 256) / 256 ≡ number l = omega (arith, h 0) in
    rw (first, rest, bytes-number l (λ k. h (suc k)))
