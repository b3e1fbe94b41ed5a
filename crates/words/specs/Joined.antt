-- Numbers of d bits laid end to end, over d: their bits, and the numbers that pieces of them spell. Bytes are the
-- case of 8.
use Rattle.std.specs.Prelude.{◌≡◌, refl, Bool, true, false, List, [], ◌∷◌, ℕ, zero, suc, ◌+◌, ◌-◌, ◌*◌, ◌/◌, ◌%◌, ◌^◌, ◌≤◌, ◌<◌, ltb, length, take, drop, get_or}
use Rattle.std.proofs.Common.{sym, ap, ap₂, ◌∙◌, pow-suc, add_comm, mod-eq_of_lt, mul-suc, add-one, arith, get_or-drop, shr-shr, pow_pos, pow-add, ltb-true, ltb-false}
use Rattle.std.proofs.Math.Nat.{mod-one, div-eq_of_lt, mod-eq-sub-mod, div-eq-sub-div}
use Rattle.std.proofs.Math.Arith.{digits_lt}
use Rattle.rules.specs.Bits.{bit, joined, bytes, bit_of, bit_at, piece, Order}
use Rattle.rules.specs.Bits.Order.{low_first, high_first}
use Rattle.words.specs.Bits.{bit_lt, bit-low, bit_high, bit_of_zero, mod_suc}

-- every number of a list is below 2 ^ d
abbrev pub Small : ℕ → List ℕ → Type 0
Small d l = (k : ℕ) → get_or l k 0 < 2 ^ d

pub small-take : (d n : ℕ) (l : List ℕ) → Small d l → Small d (take n l)
small-take d zero l h k = pow_pos d
small-take d (suc n) [] h k = pow_pos d
small-take d (suc n) (x ∷ l) h zero = h zero
small-take d (suc n) (x ∷ l) h (suc k) = small-take d n l (λ i. h (suc i)) k

pub small-drop : (d n : ℕ) (l : List ℕ) → Small d l → Small d (drop n l)
small-drop d n l h k = rw get_or-drop (h (n + k))

pub small_bytes : (n x : ℕ) → Small 8 (bytes n x)
unfolding bytes
small_bytes zero x k = omega arith
small_bytes (suc n) x zero = omega arith
small_bytes (suc n) x (suc k) = small_bytes n (x / 256) k

pub joined_lt : (d : ℕ) (l : List ℕ) → Small d l → joined d l < 2 ^ (d * length l)
unfolding joined
joined_lt d [] h = pow_pos (d * 0)
joined_lt d (x ∷ l) h =
    let ih : joined d l < 2 ^ (d * length l) = joined_lt d l (λ k. h (suc k)) in
    let size : 2 ^ (d * suc (length l)) ≡ 2 ^ (d * length l) * 2 ^ d =
    ap (λ (n : ℕ). 2 ^ n) (mul-suc d (length l)) ∙ pow-add 2 (d * length l) d in
    rw (size, add_comm x) (digits_lt ih (h 0))

-- bit k of the joined number is bit k of the list
pub bit-joined : (d : ℕ) (l : List ℕ) (k : ℕ) → 0 < d → Small d l → bit (joined d l) k ≡ bit_at low_first d l k
unfolding joined bit_at bit_of
bit-joined d [] k some h = bit_of_zero k ∙ sym (bit_of_zero (k % d))
bit-joined d (b ∷ l) k some h = go (bit-joined d l (k - d) some (λ i. h (suc i))) (ltb k d) refl
  where
    go : bit (joined d l) (k - d) ≡ bit_at low_first d l (k - d) → (t : Bool) → ltb k d ≡ t
        → bit (joined d (b ∷ l)) k ≡ bit_at low_first d (b ∷ l) k
    go ih true e =
        let first : k < d = ltb-true k d e in
        ap (λ (x : ℕ). bit x k) (add_comm b (joined d l * 2 ^ d)) ∙ bit-low (joined d l) d k (h 0) first
        ∙ sym (ap₂ (λ (i j : ℕ). bit (get_or (b ∷ l) i 0) j) (div-eq_of_lt first) (mod-eq_of_lt first))
    go ih false e =
        let later : d ≤ k = ltb-false k d e in
        ap₂ bit (add_comm b (joined d l * 2 ^ d)) (omega arith) ∙ bit_high (joined d l) d (k - d) (h 0) ∙ ih
        ∙ sym
        (ap₂ (λ (i j : ℕ). bit (get_or (b ∷ l) i 0) j) (div-eq-sub-div some later ∙ add-one ((k - d) / d))
        (mod-eq-sub-mod later))

-- w bits from k on are a quotient and a remainder of the joined number
pub piece-joined : (d : ℕ) (l : List ℕ) (k w : ℕ) → 0 < d → Small d l
    → piece low_first d l k w ≡ joined d l / 2 ^ k % 2 ^ w
unfolding piece bit
piece-joined d l k zero some h = sym (mod-one (joined d l / 2 ^ k))
piece-joined d l k (suc w) some h =
    let x = joined d l / 2 ^ k in
    let low : x % 2 ≡ bit_at low_first d l k = bit-joined d l k some h in
    let high : x / 2 ≡ joined d l / 2 ^ suc k =
    shr-shr (joined d l) k 1 ∙ ap (λ (i : ℕ). joined d l / 2 ^ i) (add-one k) in
    omega (arith, mod_suc w x, ap (λ (y : ℕ). y % 2 ^ w) high, piece-joined d l (suc k) w some h)

pub bit_at_lt : (o : Order) (d : ℕ) (l : List ℕ) (k : ℕ) → bit_at o d l k < 2
unfolding bit_at bit_of
bit_at_lt low_first d l k = bit_lt (get_or l (k / d) 0) (k % d)
bit_at_lt high_first d l k = bit_lt (get_or l (k / d) 0) (d - 1 - k % d)

pub piece_lt : (d : ℕ) (l : List ℕ) (k w : ℕ) → piece low_first d l k w < 2 ^ w
unfolding piece
piece_lt d l k zero = omega arith
piece_lt d l k (suc w) = omega (arith, piece_lt d l (suc k) w, pow-suc 2 w, bit_at_lt low_first d l k)
