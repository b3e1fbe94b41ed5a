-- The turns of a reader that goes through a number's bytes with a sum and the weight of the next seven bits.
use Rattle.std.specs.Prelude.{◌≡◌, refl, cond, List, [], ℕ, zero, suc, ◌+◌, ◌-◌, ◌*◌, ◌%◌, ◌^◌, ◌<◌, ◌≤◌, ltb, length, drop, get_or}
use Rattle.std.proofs.Common.{sym, ap, ap₂, ◌∙◌, mul-add, mul_assoc, mul-le-mul_left, add_assoc, mul-suc, one-mul, add-one, arith, drop_of_length-le, drop-cons, lt-ltb}
use Rattle.std.proofs.Math.Nat.{pow-succ', one-le-pow}
use Rattle.rules.specs.declared.Number.{Number}
use Rattle.rules.specs.declared.Number.TheVariants.{Read, Ended, Beyond}
use Rattle.rules.specs.Varint.{uleb, below, moved, number_at}

-- a number read from place p on, above a sum whose next seven bits have the weight m
abbrev pub scaled : ℕ → ℕ → ℕ → Number → Number
scaled m sum p (Read v used) = Read (sum + m * v) (p + used)
scaled m sum p Ended = Ended
scaled m sum p Beyond = Beyond

pub scaled-one : (p : ℕ) (r : Number) → moved p r ≡ scaled 1 0 p r
scaled-one p (Read v used) = ap₂ Read (simp one-mul (omega arith)) refl
scaled-one p Ended = refl
scaled-one p Beyond = refl

-- seven bits join the sum
pub scaled-below : (m sum p b : ℕ) (r : Number)
    → scaled m sum p (below b r) ≡ scaled (m * 128) (sum + m * (b % 128)) (p + 1) r
scaled-below m sum p b (Read v used) = ap₂ Read (simp (mul-add, mul_assoc, add_assoc)) (omega arith)
scaled-below m sum p b Ended = refl
scaled-below m sum p b Beyond = refl

none : (top k : ℕ) → uleb top k [] ≡ Ended
none top zero = refl
none top (suc k) = refl

-- the page ends here
pub ended : (top k : ℕ) (page : List ℕ) (i : ℕ) → length page ≤ i → uleb top k (drop i page) ≡ Ended
ended top k page i h = rw (drop_of_length-le page h) (none top k)

-- a byte that is not the last allowed one
pub step : (top k : ℕ) (page : List ℕ) (i : ℕ) → 0 < k → i < length page
    → uleb top k (drop i page)
    ≡ cond (ltb (get_or page i 0) 128) (Read (get_or page i 0) 1)
    (below (get_or page i 0) (uleb top (k - 1) (drop (i + 1) page)))
step top zero page i z h = absurd (omega arith)
step top (suc k) page i z h = let e : suc k - 1 ≡ k = omega arith in rw (drop-cons page i 0 h, add-one, e)

-- a byte below 128 is a whole number of 32 bits
pub one_byte : (page : List ℕ) (at : ℕ) → at < length page → get_or page at 0 < 128
    → number_at 32 page at ≡ Read (get_or page at 0) (at + 1)
unfolding number_at
one_byte page at h low = rw (step 16 4 page at (omega arith) h, lt-ltb (get_or page at 0) 128 low)

-- the last allowed one
pub final : (top : ℕ) (page : List ℕ) (i : ℕ) → i < length page
    → uleb top 0 (drop i page) ≡ cond (ltb (get_or page i 0) top) (Read (get_or page i 0) 1) Beyond
final top page i h = rw (drop-cons page i 0 h)

-- a sum below its weight stays so with one digit more
pub digit : (m b k : ℕ) → b < k → m * b + m ≤ m * k
digit m b k h = rw (← mul-suc) (mul-le-mul_left m h)

-- the weight of the last byte is the most that the weights come to
pub room : (m k most : ℕ) → 0 < k → m * 128 ^ k ≡ most → (m * 128 ≤ most) × (m * 128 * 128 ^ (k - 1) ≡ most)
room m zero most z e = absurd (omega arith)
room m (suc k) most z e =
    let less : suc k - 1 ≡ k = omega arith in
    let one : 1 ≤ 128 ^ k = one-le-pow k 128 (omega arith) in
    let e' : m * 128 * 128 ^ k ≡ most =
    mul_assoc m 128 (128 ^ k) ∙ ap (λ (x : ℕ). m * x) (sym (pow-succ' 128 k)) ∙ e in
    (omega (arith, mul-le-mul_left (m * 128) one), rw less e')
