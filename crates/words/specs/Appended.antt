-- Bits put behind bits, also inside a byte.
use Rattle.std.specs.Prelude.{◌≡◌, List, ◌++◌, ℕ, zero, suc, ◌+◌, ◌-◌, ◌*◌, ◌/◌, ◌%◌, ◌^◌, ◌≤◌, ◌<◌, length, take, drop, get_or}
use Rattle.std.proofs.Common.{sym, ap, ◌∙◌, append_assoc, lt_of_lt_of_le, mod-eq_of_lt, mul_assoc, arith, take_at, drop_at, take-add, drop-drop, pow_mono, pow-add, shr_lt}
use Rattle.std.proofs.Math.Nat.{mod-one, one-le-pow, mul-add-div_right, mul-add-mod_self_right}
use Rattle.std.proofs.Math.Arith.{lt-one}
use Rattle.rules.specs.Bits.{ceil, bytes, put}
use Rattle.words.specs.Puts.{put_longer, split-put, part_rest, back-rest}
use Rattle.words.specs.Bytes.{length-bytes, bytes_add, bytes_mod, pow_256}

-- the list with the m bits of x from bit p on, and 0 for what is left of the last byte
unfoldable pub appended : List ℕ → ℕ → ℕ → ℕ → List ℕ
appended l p x m =
    take (p / 8) l
    ++ put (drop (p / 8) l) 0 (bytes (ceil (p % 8 + m) 8) (x * 2 ^ (p % 8) + get_or (drop (p / 8) l) 0 0 % 2 ^ (p % 8)))

-- the bits that the first byte holds
first-bits : (r x : ℕ) (d : List ℕ) → r < 8 → x < 2 ^ r → get_or (bytes (ceil r 8) x ++ d) 0 0 % 2 ^ r ≡ x
unfolding bytes
first-bits zero x d h l = mod-one (get_or d 0 0) ∙ sym (lt-one l)
first-bits (suc r) x d h l =
    let size : ceil (suc r) 8 ≡ 1 = omega arith in
    let small : x < 256 = lt_of_lt_of_le l (pow_mono {i = suc r} {j = 8} (omega arith)) in
    ap (λ (k : ℕ). get_or (bytes k x ++ d) 0 0 % 2 ^ suc r) size ∙ ap (λ (y : ℕ). y % 2 ^ suc r) (mod-eq_of_lt small)
    ∙ mod-eq_of_lt l

-- p bits in place, a number n, with the m bits of x put behind them: the p + m bits of both
pub appended-bits : (l : List ℕ) (p m n x : ℕ) → n < 2 ^ p
    → appended (put l 0 (bytes (ceil p 8) n)) p x m ≡ put l 0 (bytes (ceil (p + m) 8) (x * 2 ^ p + n))
unfolding appended
appended-bits l p m n x h =
    let a : ℕ = p / 8 in
    let r : ℕ = p % 8 in
    let q : p ≡ r + 8 * a = omega arith in
    let high : ℕ = n / 256 ^ a in
    let small : high < 2 ^ r = rw (pow_256 a) (shr_lt r (8 * a) (rw (← q) h)) in
    let u : List ℕ = bytes a n in
    let v : List ℕ = bytes (ceil r 8) high in
    let w : List ℕ = bytes (ceil (r + m) 8) (x * 2 ^ r + high) in
    let d : List ℕ = drop (a + length v) l in
    let size : length u ≡ a = length-bytes a n in
    let more : length v ≤ length w =
    omega (arith, length-bytes (ceil r 8) high, length-bytes (ceil (r + m) 8) (x * 2 ^ r + high)) in
    let before : bytes (ceil p 8) n ≡ u ++ v = ap (λ (k : ℕ). bytes k n) (omega arith) ∙ bytes_add a (ceil r 8) n in
    let whole : x * 2 ^ p + n ≡ x * 2 ^ r * 256 ^ a + n =
    ap (λ (k : ℕ). x * k + n) (ap (λ (k : ℕ). 2 ^ k) q ∙ pow-add 2 r (8 * a))
    ∙ rw (← (pow_256 a)) (ap (λ (k : ℕ). k + n) (sym (mul_assoc x (2 ^ r) (256 ^ a)))) in
    let low : bytes a (x * 2 ^ p + n) ≡ u =
    sym (bytes_mod a (x * 2 ^ p + n)) ∙ ap (λ (k : ℕ). bytes a (k % 256 ^ a)) whole
    ∙ ap (bytes a) (mul-add-mod_self_right (x * 2 ^ r) (256 ^ a) n) ∙ bytes_mod a n in
    let top : (x * 2 ^ p + n) / 256 ^ a ≡ x * 2 ^ r + high =
    ap (λ (k : ℕ). k / 256 ^ a) whole ∙ mul-add-div_right (one-le-pow a 256 (omega arith)) (x * 2 ^ r) n in
    let after : bytes (ceil (p + m) 8) (x * 2 ^ p + n) ≡ u ++ w =
    ap (λ (k : ℕ). bytes k (x * 2 ^ p + n)) (omega arith) ∙ bytes_add a (ceil (r + m) 8) (x * 2 ^ p + n)
    ∙ rw (low, top) in
    rw (
      before,
      split-put l u v a size,
      take_at u (v ++ d) a size,
      drop_at u (v ++ d) a size,
      first-bits r high d (omega arith) small,
      after,
    )
    (ap (λ (y : List ℕ). u ++ y) (put_longer l v w a more) ∙ sym (split-put l u w a size))

-- bits put in the part from byte a on are bits put in the list, 8 * a bits on
appended-rest : (l : List ℕ) (a p x m : ℕ) → take a l ++ appended (drop a l) p x m ≡ appended l (8 * a + p) x m
unfolding appended
appended-rest l a p x m =
    let byte : (8 * a + p) / 8 ≡ a + p / 8 = omega arith in
    let bit : (8 * a + p) % 8 ≡ p % 8 = omega arith in
    rw (byte, bit, take-add, drop-drop) (sym (append_assoc (take a l) (take (p / 8) (drop a l)) _))

-- a part that was lent from byte a on and came back with bits put
pub part_appended : (l ys : List ℕ) (a p q x m : ℕ) → 8 * a + p ≡ q
    → ys ≡ appended (take (length l - a) (drop a l)) p x m
    → take a l ++ (ys ++ drop (length l - a) (drop a l)) ≡ appended l q x m
part_appended l ys a p q x m place e =
    back-rest l ys a
    ∙ ap (λ (y : List ℕ). take a l ++ y) (e ∙ ap (λ (y : List ℕ). appended y p x m) (part_rest l a))
    ∙ appended-rest l a p x m ∙ ap (λ (k : ℕ). appended l k x m) place
