-- The unused lanes of the last group, judged all at once: the group's words put over each other.
use Rattle.std.specs.Prelude.{◌≡◌, refl, Bool, false, ◌||◌, List, ℕ, zero, suc, ◌+◌, ◌-◌, ◌*◌, ◌/◌, ◌%◌, ◌^◌, ◌<◌, max, ltb, get_or}
use Rattle.std.proofs.Common.{sym, ap, ap₂, ◌∙◌, pow-suc, arith, pow_pos, shr_lt, lt-ltb, le-ltb}
use Rattle.std.specs.Int.Bits.{bit_or}
use Rattle.std.proofs.lemmas.Nat.{or_lt}
use Rattle.rules.specs.Bits.{ceil, bit, some_below}
use Rattle.rules.specs.Vertical.{lane, entry, unused}
use Rattle.words.specs.Bits.{bit_or_lem, bit_of_zero, bit-zero, bit-half, bit_shr}

-- w words from `at` on, put over each other
unfoldable pub or_to : List ℕ → ℕ → ℕ → ℕ
or_to words at zero = 0
or_to words at (suc w) = bit_or (or_to words at w) (get_or words (at + w) 0)

pub or_small : (words : List ℕ) (at w : ℕ) → ((k : ℕ) → get_or words k 0 < 2 ^ 64) → or_to words at w < 2 ^ 64
unfolding or_to
or_small words at zero h = pow_pos 64
or_small words at (suc w) h = or_lt 64 _ _ (or_small words at w h) (h (at + w))

-- two tests for 0 agree where the numbers are 0 alike
positive : (x y : ℕ) → (0 < x → 0 < y) → (0 < y → 0 < x) → ltb 0 x ≡ ltb 0 y
positive zero zero f g = refl
positive zero (suc y) f g = absurd (omega (arith, g (omega arith)))
positive (suc x) zero f g = absurd (omega (arith, f (omega arith)))
positive (suc x) (suc y) f g = lt-ltb 0 (suc x) (omega arith) ∙ sym (lt-ltb 0 (suc y) (omega arith))

-- a lane is 0 exactly where its bit is
lane-positive : (words : List ℕ) (at w j : ℕ)
    → (0 < lane words at w j → 0 < bit (or_to words at w) j) × (0 < bit (or_to words at w) j → 0 < lane words at w j)
unfolding lane or_to
lane-positive words at zero j = (λ h. absurd (omega arith), λ h. absurd (omega (arith, bit_of_zero j)))
lane-positive words at (suc w) j =
    let b = bit (get_or words (at + w) 0) j in
    let o = bit (or_to words at w) j in
    let both : bit (or_to words at (suc w)) j ≡ max o b = bit_or_lem (or_to words at w) (get_or words (at + w) 0) j in
    let ih = lane-positive words at w j in
    (λ h. up (lane words at w j) b o _ ih.0 h both, λ h. down (lane words at w j) b o _ ih.1 h both)
  where
    up : (x b o r : ℕ) → (0 < x → 0 < o) → 0 < x * 2 + b → r ≡ max o b → 0 < r
    up zero b o r f h e = omega arith
    up (suc x) b o r f h e = omega (arith, f (omega arith))

    down : (x b o r : ℕ) → (0 < o → 0 < x) → 0 < r → r ≡ max o b → 0 < x * 2 + b
    down x b zero r f h e = omega arith
    down x b (suc o) r f h e = omega (arith, f (omega arith))

pub lane_or : (words : List ℕ) (at w j : ℕ) → ltb 0 (lane words at w j) ≡ ltb 0 (bit (or_to words at w) j)
lane_or words at w j = let p = lane-positive words at w j in positive _ _ p.0 p.1

some-ext : (n : ℕ) {f g : ℕ → Bool} → ((k : ℕ) → k < n → f k ≡ g k) → some_below n f ≡ some_below n g
unfolding some_below
some-ext zero h = refl
some-ext (suc n) h = ap₂ (λ (x y : Bool). x || y) (h 0 (omega arith)) (some-ext n (λ k l. h (suc k) (omega arith)))

-- a number of m bits is not 0 exactly where one of its bits is not
some_bits : (m x : ℕ) → x < 2 ^ m → ltb 0 x ≡ some_below m (λ k. ltb 0 (bit x k))
unfolding some_below
some_bits zero x h = le-ltb 0 x (omega arith)
some_bits (suc m) x h =
    let small : x / 2 < 2 ^ m = omega (arith, pow-suc 2 m) in
    parts (x % 2) (x / 2) x (omega arith) (omega arith)
    ∙ ap₂ (λ (s t : Bool). s || t) (ap (ltb 0) (sym (bit-zero x)))
    (some_bits m (x / 2) small ∙ some-ext m (λ k l. ap (ltb 0) (bit-half x k)))
  where
    parts : (b y x : ℕ) → b < 2 → x ≡ y * 2 + b → ltb 0 x ≡ (ltb 0 b || ltb 0 y)
    parts zero y x l e = positive x y (λ h. omega arith) (λ h. omega arith)
    parts (suc b) y x l e =
        lt-ltb 0 x (omega arith) ∙ ap (λ (t : Bool). t || ltb 0 y) (sym (lt-ltb 0 (suc b) (omega arith)))

-- the group that n ends in: what is left of its words above n's lanes
pub unused-rest : (words : List ℕ) (w n : ℕ) → ((k : ℕ) → get_or words k 0 < 2 ^ 64) → (n % 64 ≡ 0 → ⊥)
    → ltb 0 (or_to words (n / 64 * w) w / 2 ^ (n % 64)) ≡ unused words w n
unused-rest words w n h some =
    let r = n % 64 in
    let o = or_to words (n / 64 * w) w in
    let left : 64 - r ≡ 64 * ceil n 64 - n = omega arith in
    let size : 64 ≡ 64 - r + r = omega arith in
    let small : o / 2 ^ r < 2 ^ (64 - r) = shr_lt (64 - r) r (rw (← size) (or_small words (n / 64 * w) w h)) in
    some_bits (64 - r) (o / 2 ^ r) small
    ∙ some-ext (64 - r)
    (λ k l. ap (ltb 0) (bit_shr o r k) ∙ sym (lane_or words (n / 64 * w) w (r + k)) ∙ ap₂
    (λ (g j : ℕ). ltb 0 (lane words (g * w) w j)) (omega arith) (omega arith))
    ∙ ap (λ (m : ℕ). some_below m (λ k. ltb 0 (entry words w (n + k)))) left

-- a full last group has none
pub unused-none : (words : List ℕ) (w n : ℕ) → n % 64 ≡ 0 → unused words w n ≡ false
unfolding some_below
unused-none words w n e =
    let none : 64 * ceil n 64 - n ≡ 0 = omega arith in
    ap (λ (m : ℕ). some_below m (λ k. ltb 0 (entry words w (n + k)))) none
