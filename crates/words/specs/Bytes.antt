-- The laws of `number` and `bytes`, over the count of bytes.
use Rattle.std.specs.Prelude.{◌≡◌, refl, List, [], ◌∷◌, ◌++◌, ℕ, zero, suc, ◌+◌, ◌-◌, ◌*◌, ◌/◌, ◌%◌, ◌^◌, ◌≤◌, ◌<◌, length, take, drop, get_or, set}
use Rattle.std.proofs.Common.{sym, ap, ap₂, ◌∙◌, mul_assoc, zero-add, suc-add, pow-suc, div-one, add_comm, mod-eq_of_lt, lt_of_lt_of_le, add-one, arith, pow-add, pow_mono, length-drop, drop_of_length-le, take_at, take-add, drop-drop, drop-cons, length-take-le}
use Rattle.std.proofs.Math.Nat.{pow-succ', one-le-pow, div-div-eq-div-mul, mod-one, div-eq_of_lt, div-mul-le_self, suc-mul, mul-suc, mul-zero, mul_comm, mul-le-mul_left, not-suc-le-zero}
use Rattle.std.proofs.Math.Arith.{mod-mul}
use Rattle.std.specs.Int.{sum_through, byte_worth, byte_at, bytes_low_first}
use borrow.Rule.Slice.PartMut.{put_mid}
use Rattle.std.specs.Simd.{first_chunks}
use Rattle.rules.specs.Bits.{joined, number, bytes, put}
use Rattle.std.proofs.Math.Seq.{take_all}
use Rattle.words.specs.Puts.{put-end, put_snoc, part-put}

-- the number of some bytes, and then of more behind them
pub number_append : (a b : List ℕ) → number (a ++ b) ≡ number a + number b * 256 ^ length a
unfolding joined
number_append [] b = omega arith
number_append (x ∷ a) b =
    let e : number b * 256 ^ suc (length a) ≡ number b * 256 ^ length a * 256 =
    ap (λ (n : ℕ). number b * n) (pow-suc 256 (length a)) ∙ sym (mul_assoc (number b) (256 ^ length a) 256) in
    omega (arith, number_append a b)

-- the bytes from `at` on, n and then m of them
pub number_add : (s : List ℕ) (at n m : ℕ) → at + n ≤ length s
    → number (take (n + m) (drop at s)) ≡ number (take n (drop at s)) + number (take m (drop (at + n) s)) * 256 ^ n
number_add s at n m h =
    let l : length (take n (drop at s)) ≡ n = length-take-le n (drop at s) (simp length-drop (omega arith)) in
    rw (take-add, drop-drop, number_append, l)

pub number-one : (s : List ℕ) (at : ℕ) → at < length s → number (take 1 (drop at s)) ≡ get_or s at 0
unfolding joined
number-one s at h = rw (drop-cons s at 0) (omega arith)

-- the bytes from k to the end: one more, and none
pub number_step : (s : List ℕ) (k : ℕ) → k < length s → number (drop k s) ≡ number (drop (k + 1) s) * 256 + get_or s k 0
unfolding joined
number_step s k h = rw (drop-cons s k 0 h, add-one) (add_comm (get_or s k 0) (number (drop (suc k) s) * 256))

pub number-end : (s : List ℕ) (k : ℕ) → length s ≤ k → number (drop k s) ≡ 0
unfolding joined
number-end s k h = rw (drop_of_length-le s h)

-- added up as the library's `from_le_bytes` does
pub number_through : (bs : List ℕ) (n : ℕ) → n < length bs
    → sum_through (λ i. byte_worth i (get_or bs i 0)) n ≡ number (take (suc n) bs)
number_through bs zero h = sym (number-one bs 0 h)
number_through bs (suc n) h =
    rw (number_through bs n (omega arith), ← (number-one bs (suc n) h))
    (sym (rw (add-one, zero-add) at (number_add bs 0 (suc n) 1 (omega arith))))

-- the number of chunk k of those into which bytes are cut
chunk : (t : List ℕ) (n q k : ℕ) → k < q → q * n ≤ length t → get_or (first_chunks n q t) k [] ≡ take n (drop (n * k) t)
chunk t n zero k h few = absurd (not-suc-le-zero h)
chunk t n (suc q) zero h few = rw mul-zero
chunk t n (suc q) (suc k) h few =
    let size : suc q * n ≡ q * n + n = suc-mul q n in
    let place : n + n * k ≡ n * suc k = omega (arith, mul-suc n k) in
    chunk (drop n t) n q k (omega arith) (simp length-drop (omega arith))
    ∙ ap (take n) (drop-drop (n * k) n t ∙ ap (λ (i : ℕ). drop i t) place)

pub number_chunk : (t : List ℕ) (n k : ℕ) (cs : List (List ℕ)) → k < length t / suc n
    → cs ≡ first_chunks (suc n) (length t / suc n) t
    → sum_through (λ i. byte_worth i (get_or (get_or cs k []) i 0)) n ≡ number (take (suc n) (drop (suc n * k) t))
number_chunk t n k cs h e =
    let q : ℕ = length t / suc n in
    let few : q * suc n ≤ length t = div-mul-le_self (length t) (suc n) in
    let c : List ℕ = take (suc n) (drop (suc n * k) t) in
    let same : get_or cs k [] ≡ c = rw e (chunk t (suc n) q k h few) in
    let size : length c ≡ suc n =
    length-take-le (suc n) (drop (suc n * k) t)
    (simp length-drop (omega (arith, mul-le-mul_left (suc n) h, mul-suc (suc n) k, mul_comm q (suc n)))) in
    rw same (number_through c n (omega arith) ∙ ap number (take_all (suc n) c (omega arith)))

-- ---- a number's bytes

pub length-bytes : (n x : ℕ) → length (bytes n x) ≡ n
unfolding bytes
length-bytes zero x = refl
length-bytes (suc n) x = ap suc (length-bytes n (x / 256))

mod_256 : (n x : ℕ) → x % 256 ^ suc n ≡ (x / 256 % 256 ^ n) * 256 + x % 256
mod_256 n x = ap (λ (m : ℕ). x % m) (pow-suc 256 n) ∙ mod-mul x (one-le-pow n 256 (omega arith)) (omega arith)

pub bytes_mod : (n x : ℕ) → bytes n (x % 256 ^ n) ≡ bytes n x
unfolding bytes
bytes_mod zero x = refl
bytes_mod (suc n) x =
    let low : x % 256 ^ suc n % 256 ≡ x % 256 = omega (arith, mod_256 n x) in
    let high : x % 256 ^ suc n / 256 ≡ x / 256 % 256 ^ n = omega (arith, mod_256 n x) in
    rw (low, high, bytes_mod n (x / 256))

-- the low n bytes, and then m more
pub bytes_add : (n m x : ℕ) → bytes (n + m) x ≡ bytes n x ++ bytes m (x / 256 ^ n)
unfolding bytes
bytes_add zero m x = rw (zero-add, div-one)
bytes_add (suc n) m x = rw (suc-add, bytes_add n m (x / 256), div-div-eq-div-mul, ← (pow-succ' 256 n))

pub number-bytes : (n x : ℕ) → number (bytes n x) ≡ x % 256 ^ n
unfolding joined bytes
number-bytes zero x = sym (mod-one x)
number-bytes (suc n) x = omega (arith, mod_256 n x, number-bytes n (x / 256))

pub pow_256 : (n : ℕ) → 256 ^ n ≡ 2 ^ (8 * n)
pow_256 zero = refl
pow_256 (suc n) =
    pow-suc 256 n ∙ ap (λ (x : ℕ). x * 256) (pow_256 n) ∙ sym (pow-add 2 (8 * n) 8)
    ∙ ap (λ (x : ℕ). 2 ^ x) (omega arith)

-- bytes enough for the m bits of a number
in_bytes : (n m x : ℕ) → x < 2 ^ m → m ≤ 8 * n → x < 256 ^ n
in_bytes n m x h enough = rw pow_256 (lt_of_lt_of_le h (pow_mono {i = m} {j = 8 * n} enough))

-- make the number again
pub number-whole : (n m x : ℕ) → x < 2 ^ m → m ≤ 8 * n → number (bytes n x) ≡ x
number-whole n m x h enough = number-bytes n x ∙ mod-eq_of_lt (in_bytes n m x h enough)

-- and k further ones are 0
pub bytes-further : (n k m x : ℕ) → x < 2 ^ m → m ≤ 8 * n → bytes (n + k) x ≡ bytes n x ++ bytes k 0
bytes-further n k m x h enough =
    bytes_add n k x ∙ ap (λ (y : ℕ). bytes n x ++ bytes k y) (div-eq_of_lt (in_bytes n m x h enough))

-- ---- bytes in place

-- the bytes as the library's `to_le_bytes` has them
bytes_from : (i k x : ℕ) → bytes_low_first i k x ≡ bytes k (x / 256 ^ i)
unfolding bytes
bytes_from i zero x = refl
bytes_from i (suc k) x =
    ap₂ (λ (b : ℕ) (l : List ℕ). b ∷ l) (worth i)
    (bytes_from (suc i) k x ∙ ap (bytes k) (sym (rw pow-suc (div-div-eq-div-mul x (256 ^ i) 256))))
  where
    worth : (i : ℕ) → byte_at i x ≡ x / 256 ^ i % 256
    worth zero = rw div-one
    worth (suc i) = refl

-- and the first k of m of them copied into the part from `at` on
pub put-copied : (l vs : List ℕ) (at i k m x : ℕ) → i ≡ at + k → k ≤ m → vs ≡ take k (bytes_low_first 0 m x)
    → put_mid at (i - at) l vs ≡ put l at (bytes k x)
put-copied l vs at i k m x end h e =
    let j : ℕ = m - k in
    let all : bytes_low_first 0 m x ≡ bytes k x ++ bytes j (x / 256 ^ k) =
    bytes_from 0 m x ∙ ap (bytes m) (div-one x) ∙ ap (λ (i : ℕ). bytes i x) (omega arith) ∙ bytes_add k j x in
    rw (e, all, take_at (bytes k x) (bytes j (x / 256 ^ k)) k (length-bytes k x))
    (part-put l (bytes k x) at i (omega (arith, length-bytes k x)))

-- one byte more
pub put_next : (l : List ℕ) (at k x : ℕ) → at + k < length l
    → set (put l at (bytes k x)) (at + k) (x / 256 ^ k % 256) ≡ put l at (bytes (k + 1) x)
unfolding bytes
put_next l at k x h =
    let size : length (bytes k x) ≡ k = length-bytes k x in
    put_snoc l (bytes k x) at (at + k) (x / 256 ^ k % 256) (omega arith) h ∙ ap (put l at) (sym (bytes_add k 1 x))

-- n bytes as the first k of them and the last k, which may overlap
pub put-ends : (l : List ℕ) (at k n x : ℕ) → k ≤ n → n ≤ k + k → at + n ≤ length l
    → put (put l at (bytes k x)) (at + (n - k)) (bytes k (x / 2 ^ (8 * (n - k)))) ≡ put l at (bytes n x)
put-ends l at k n x few many h =
    let j : ℕ = n - k in
    let front : List ℕ = bytes j x in
    let end : List ℕ = bytes k (x / 256 ^ j) in
    let over : List ℕ = bytes (k - j) (x / 256 ^ j) in
    let size : length front ≡ j = length-bytes j x in
    let first : bytes k x ≡ front ++ over = let e : k ≡ j + (k - j) = omega arith in ap (λ (i : ℕ). bytes i x) e ∙
    bytes_add j (k - j) x in
    let all : bytes n x ≡ front ++ end = let e : n ≡ j + k = omega arith in ap (λ (i : ℕ). bytes i x) e ∙ bytes_add
    j k x in
    let long : length end ≡ k = length-bytes k (x / 256 ^ j) in
    let short : length over ≡ k - j = length-bytes (k - j) (x / 256 ^ j) in
    rw (← (pow_256 j), first, all)
    (put-end l front over end at (at + j) (omega arith) (omega arith) (omega arith))
