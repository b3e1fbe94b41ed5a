-- The laws of `bit` and `word`, over the width.
use Rattle.std.specs.Prelude.{◌≡◌, refl, Bool, true, false, not, ◌&&◌, ◌||◌, ℕ, zero, suc, ◌+◌, ◌-◌, ◌*◌, ◌/◌, ◌%◌, ◌^◌, ◌≤◌, ◌<◌, min, max}
use Rattle.std.proofs.Common.{sym, ◌∙◌, not-suc-le-zero, div-one, one-mul, mul_assoc, add-zero, zero-add, suc-add, pow-suc, add_comm, lt_of_lt_of_le, add-one, arith, pow_mono, shl_exact, shr-shr}
use Rattle.std.proofs.Math.Path.{ap}
use Rattle.std.proofs.Math.Bool.{xor}
use Rattle.std.proofs.Math.Nat.{zero-div}
use Rattle.std.proofs.Math.Arith.{lt-one}
use Rattle.std.proofs.Math.Pow.{ones_sub-lt, low, high}
use Rattle.std.proofs.lemmas.Nat.{mod-pow-add, and_shr, or_shr, xor_shr, or_lt, xor_lt}
use Rattle.std.specs.Int.Bits.{bit_and, bit_or, bit_xor, differ, and_step, or_step, xor_step, and_lt}
use mir.Val.{bool_byte}
use Rattle.rules.specs.Bits.{bit, flag, word}

pub bit_lt : (x k : ℕ) → bit x k < 2
unfolding bit
bit_lt x k = omega arith

pub bit-zero : (x : ℕ) → bit x 0 ≡ x % 2
unfolding bit
bit-zero x = ap (λ (y : ℕ). y % 2) (div-one x)

-- a shift down moves the bits down
pub bit_shr : (x j k : ℕ) → bit (x / 2 ^ j) k ≡ bit x (j + k)
unfolding bit
bit_shr x j k = ap (λ (y : ℕ). y % 2) (shr-shr x j k)

pub bit-half : (x k : ℕ) → bit (x / 2) k ≡ bit x (suc k)
bit-half x k = bit_shr x 1 k ∙ ap (bit x) (add_comm 1 k ∙ add-one k)

-- two numbers of n bits with the same bits are equal
pub ext : (n : ℕ) {a b : ℕ} → a < 2 ^ n → b < 2 ^ n → ((k : ℕ) → k < n → bit a k ≡ bit b k) → a ≡ b
ext zero ha hb h = lt-one ha ∙ sym (lt-one hb)
ext (suc n) {a} {b} ha hb h =
    let low : a % 2 ≡ b % 2 = sym (bit-zero a) ∙ h 0 (omega arith) ∙ bit-zero b in
    let high : a / 2 ≡ b / 2 =
    ext n (half ha) (half hb) (λ k l. bit-half a k ∙ h (suc k) (omega arith) ∙ sym (bit-half b k)) in
    omega arith
  where
    half : {x : ℕ} → x < 2 ^ suc n → x / 2 < 2 ^ n
    half h = omega (arith, pow-suc 2 n)

-- ---- the operations on words, bit by bit

module _ (op digit : ℕ → ℕ → ℕ)
    (step : (a b : ℕ) → op a b ≡ op (a / 2) (b / 2) * 2 + digit (a % 2) (b % 2))
    (small : (a b : ℕ) → digit (a % 2) (b % 2) < 2)
    (shr : (a b k : ℕ) → op a b / 2 ^ k ≡ op (a / 2 ^ k) (b / 2 ^ k)) where
  bit-op : (a b k : ℕ) → bit (op a b) k ≡ digit (bit a k) (bit b k)
  unfolding bit
  bit-op a b k =
      let x = a / 2 ^ k in
      let y = b / 2 ^ k in
      ap (λ (n : ℕ). n % 2) (shr a b k) ∙ omega (arith, step x y, small x y)

pub bit_and_lem : (a b k : ℕ) → bit (bit_and a b) k ≡ min (bit a k) (bit b k)
bit_and_lem = bit-op bit_and min and_step (λ a b. omega arith) and_shr

pub bit_or_lem : (a b k : ℕ) → bit (bit_or a b) k ≡ max (bit a k) (bit b k)
bit_or_lem = bit-op bit_or max or_step (λ a b. omega arith) or_shr

differ_lt : (x y : ℕ) → x < 2 → y < 2 → differ x y < 2
differ_lt zero y h l = l
differ_lt (suc zero) zero h l = h
differ_lt (suc zero) (suc zero) h l = omega arith
differ_lt (suc zero) (suc (suc y)) h l = absurd (omega arith)
differ_lt (suc (suc x)) y h l = absurd (omega arith)

pub bit-xor : (a b k : ℕ) → bit (bit_xor a b) k ≡ differ (bit a k) (bit b k)
bit-xor = bit-op bit_xor differ xor_step (λ a b. differ_lt (a % 2) (b % 2) (omega arith) (omega arith)) xor_shr

-- `!a` of a word of n bits
pub bit_not : (n : ℕ) {a : ℕ} (k : ℕ) → a < 2 ^ n → k < n → bit (2 ^ n - 1 - a) k ≡ 1 - bit a k
bit_not zero k h l = absurd (not-suc-le-zero l)
bit_not (suc n) {a} zero h l =
    let e : 2 ^ suc n ≡ 2 ^ n * 2 = pow-suc 2 n in
    bit-zero (2 ^ suc n - 1 - a) ∙ rw bit-zero (omega arith)
bit_not (suc n) {a} (suc k) h l =
    let e : 2 ^ suc n ≡ 2 ^ n * 2 = pow-suc 2 n in
    let half : (2 ^ suc n - 1 - a) / 2 ≡ 2 ^ n - 1 - a / 2 = omega arith in
    sym (bit-half (2 ^ suc n - 1 - a) k) ∙ ap (λ (x : ℕ). bit x k) half
    ∙ bit_not n {a = a / 2} k (omega arith) (omega arith) ∙ ap (λ (x : ℕ). 1 - x) (bit-half a k)

pub mod_suc : (n a : ℕ) → a % 2 ^ suc n ≡ (a / 2 % 2 ^ n) * 2 + a % 2
mod_suc n a = ap (λ (m : ℕ). a % 2 ^ m) (sym (add-one n)) ∙ mod-pow-add a n 1

pub bit_of_zero : (k : ℕ) → bit 0 k ≡ 0
unfolding bit
bit_of_zero k = ap (λ (x : ℕ). x % 2) (zero-div (2 ^ k))

-- a remainder keeps the low bits
pub bit_mod : (n a k : ℕ) → k < n → bit (a % 2 ^ n) k ≡ bit a k
bit_mod zero a k h = absurd (not-suc-le-zero h)
bit_mod (suc n) a zero h = bit-zero (a % 2 ^ suc n) ∙ omega (arith, mod_suc n a) ∙ sym (bit-zero a)
bit_mod (suc n) a (suc k) h =
    let half : a % 2 ^ suc n / 2 ≡ a / 2 % 2 ^ n = omega (arith, mod_suc n a) in
    sym (bit-half (a % 2 ^ suc n) k) ∙ ap (λ (x : ℕ). bit x k) half ∙ bit_mod n (a / 2) k (omega arith) ∙ bit-half a k

-- the n bits of r below, and those of a above them
pub bit-low : (a n : ℕ) {r : ℕ} (k : ℕ) → r < 2 ^ n → k < n → bit (a * 2 ^ n + r) k ≡ bit r k
bit-low a n {r} k h l = sym (bit_mod n (a * 2 ^ n + r) k l) ∙ ap (λ (x : ℕ). bit x k) (low a n h)

pub bit_high : (a n : ℕ) {r : ℕ} (k : ℕ) → r < 2 ^ n → bit (a * 2 ^ n + r) (n + k) ≡ bit a k
bit_high a n {r} k h = sym (bit_shr (a * 2 ^ n + r) n k) ∙ ap (λ (x : ℕ). bit x k) (high a n h)

-- ---- the words that are made of bits

pub flag_lt : (b : Bool) → flag b < 2
flag_lt true = omega arith
flag_lt false = omega arith

-- a test cast to a number is its digit
pub byte_flag : (t : Bool) → bool_byte t ≡ flag t
byte_flag true = refl
byte_flag false = refl

pub word_lt : (n : ℕ) (f : ℕ → Bool) → word n f < 2 ^ n
unfolding word
word_lt zero f = omega arith
word_lt (suc n) f = omega (arith, word_lt n (λ k. f (suc k)), flag_lt (f zero), pow-suc 2 n)

pub bit_word : (n : ℕ) (f : ℕ → Bool) (k : ℕ) → k < n → bit (word n f) k ≡ flag (f k)
unfolding word
bit_word zero f k h = absurd (not-suc-le-zero h)
bit_word (suc n) f zero h = bit-zero (word (suc n) f) ∙ omega (arith, flag_lt (f zero))
bit_word (suc n) f (suc k) h =
    let half : word (suc n) f / 2 ≡ word n (λ i. f (suc i)) = omega (arith, flag_lt (f zero)) in
    sym (bit-half (word (suc n) f) k) ∙ ap (λ (x : ℕ). bit x k) half ∙ bit_word n (λ i. f (suc i)) k (omega arith)

-- a number of n bits is the word of f, where its bits are what f says
pub word_of : (n : ℕ) {a : ℕ} (f : ℕ → Bool) → a < 2 ^ n → ((k : ℕ) → k < n → bit a k ≡ flag (f k)) → a ≡ word n f
word_of n f h e = ext n h (word_lt n f) (λ k l. e k l ∙ sym (bit_word n f k l))

-- `1 << w`
pub one_shl : (n w : ℕ) → w < n → (1 * 2 ^ w) % 2 ^ n ≡ 2 ^ w
one_shl n w h = shl_exact {a = 1} 1 w n (omega arith) (omega arith) ∙ one-mul (2 ^ w)

-- ---- words, operation by operation

pub word-ext : (n : ℕ) {f g : ℕ → Bool} → ((k : ℕ) → k < n → f k ≡ g k) → word n f ≡ word n g
word-ext n {f} {g} h = word_of n g (word_lt n f) (λ k l. bit_word n f k l ∙ ap flag (h k l))

flag_and : (a b : Bool) → min (flag a) (flag b) ≡ flag (a && b)
flag_and true true = refl
flag_and true false = refl
flag_and false true = refl
flag_and false false = refl

flag_or : (a b : Bool) → max (flag a) (flag b) ≡ flag (a || b)
flag_or true true = refl
flag_or true false = refl
flag_or false true = refl
flag_or false false = refl

flag-xor : (a b : Bool) → differ (flag a) (flag b) ≡ flag (xor a b)
unfolding xor
flag-xor true true = refl
flag-xor true false = refl
flag-xor false true = refl
flag-xor false false = refl

flag-not : (a : Bool) → 1 - flag a ≡ flag (not a)
flag-not true = refl
flag-not false = refl

module _ (n : ℕ) (f g : ℕ → Bool) where
  pub word_and : bit_and (word n f) (word n g) ≡ word n (λ k. f k && g k)
  word_and =
      word_of n _ (and_lt n (word n f) (word n g) (word_lt n f) (word_lt n g))
      (λ k l. rw (bit_and_lem, bit_word n f k l, bit_word n g k l) (flag_and (f k) (g k)))

  pub word_or : bit_or (word n f) (word n g) ≡ word n (λ k. f k || g k)
  word_or =
      word_of n _ (or_lt n (word n f) (word n g) (word_lt n f) (word_lt n g))
      (λ k l. rw (bit_or_lem, bit_word n f k l, bit_word n g k l) (flag_or (f k) (g k)))

  pub word-xor : bit_xor (word n f) (word n g) ≡ word n (λ k. xor (f k) (g k))
  word-xor =
      word_of n _ (xor_lt n (word n f) (word n g) (word_lt n f) (word_lt n g))
      (λ k l. rw (bit-xor, bit_word n f k l, bit_word n g k l) (flag-xor (f k) (g k)))

pub word-not : (n : ℕ) (f : ℕ → Bool) → 2 ^ n - 1 - word n f ≡ word n (λ k. not (f k))
word-not n f =
    word_of n _ (ones_sub-lt n (word n f))
    (λ k l. rw (bit_not n k (word_lt n f) l, bit_word n f k l) (flag-not (f k)))

-- no bit set, and every bit
pub word_none : (n : ℕ) → word n (λ _. false) ≡ 0
unfolding word
word_none zero = refl
word_none (suc n) = omega (arith, word_none n)

pub word_all : (n : ℕ) → word n (λ _. true) ≡ 2 ^ n - 1
word_all n = omega (arith, word-not n (λ _. false), word_none n)

-- n bits and then m more
pub word_add : (n m : ℕ) (f : ℕ → Bool) → word (n + m) f ≡ word n f + word m (λ k. f (n + k)) * 2 ^ n
unfolding word
word_add zero m f = simp zero-add (omega arith)
word_add (suc n) m f =
    let h : ℕ = word m (λ k. f (suc (n + k))) in
    let e : h * 2 ^ suc n ≡ h * 2 ^ n * 2 = rw (pow-suc, mul_assoc) in
    simp suc-add (omega (arith, word_add n m (λ k. f (suc k))))

-- n bits and then one more, which is shifted to its place in a word of N bits
pub word_snoc : (N n : ℕ) (f : ℕ → Bool) (t : Bool) → n < N → t ≡ f n
    → word n f + (bool_byte t * 2 ^ n) % 2 ^ N ≡ word (n + 1) f
unfolding word
word_snoc N n f t h e =
    let one : word 1 (λ k. f (n + k)) ≡ flag (f n) = simp add-zero (omega arith) in
    let shl : (flag (f n) * 2 ^ n) % 2 ^ N ≡ flag (f n) * 2 ^ n = shl_exact 1 n N (flag_lt (f n)) (omega arith) in
    rw (byte_flag, e, shl, word_add, one)

-- a word of n bits fits where there are more
pub word_fits : (n N : ℕ) (f : ℕ → Bool) → n ≤ N → word n f < 2 ^ N
word_fits n N f h = lt_of_lt_of_le (word_lt n f) (pow_mono {i = n} {j = N} h)

-- the low bits of a word
pub word_mod : (r n : ℕ) (f : ℕ → Bool) → r ≤ n → word n f % 2 ^ r ≡ word r f
word_mod r n f h =
    let e : n ≡ r + (n - r) = omega arith in
    let g : ℕ → Bool = λ k. f (r + k) in
    ap (λ (k : ℕ). word k f % 2 ^ r) e
    ∙ ap (λ (x : ℕ). x % 2 ^ r) (word_add r (n - r) f ∙ add_comm (word r f) (word (n - r) g * 2 ^ r))
    ∙ low (word (n - r) g) r (word_lt r f)
