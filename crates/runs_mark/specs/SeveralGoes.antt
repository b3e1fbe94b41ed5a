-- Bits put behind bits in several goes are bits put in one go.
use Rattle.std.specs.Prelude.{◌≡◌, Bool}
use Rattle.std.proofs.Common.{sym, ◌∙◌, mul_assoc, add_comm, add_assoc, mod-lt, pow_pos, pow-add}
use Rattle.std.proofs.Math.Path.{ap, ap₂}
use mathlib.Core.List.{List, ◌++◌, append_assoc}
use Prim.Native.Nat.{ℕ, ◌+◌, ◌*◌, ◌/◌, ◌%◌, ◌^◌, ◌≤◌, ◌<◌}
use Rattle.std.proofs.Math.Nat.{add-mul}
use native.Mathlib.Omega.{arith}
use Rattle.std.proofs.Math.ListN.{length, take, drop, get_or}
use Rattle.std.proofs.Math.Seq.{length-take-le, take-append-add, drop-append-add}
use Rattle.std.proofs.Math.Arith.{digits_lt}
use Rattle.rules.specs.Bits.{ceil, word, bytes, put}
use Rattle.words.specs.Bits.{word_lt, word_add}
use Rattle.words.specs.Appended.{appended, appended-bits}

-- bits put behind a whole bytes change only what follows those bytes
appended_part : (u t : List ℕ) (a q y k : ℕ) → length u ≡ a
    → appended (u ++ t) (8 * a + q) y k ≡ u ++ appended t q y k
unfolding appended
appended_part u t a q y k e =
    let byte : (8 * a + q) / 8 ≡ length u + q / 8 = omega arith in
    let place : (8 * a + q) % 8 ≡ q % 8 = omega arith in
    rw (byte, place, take-append-add, drop-append-add) (append_assoc u (take (q / 8) t) _)

module _ (l : List ℕ) (p x m : ℕ) (room : p ≤ 8 * length l) (small : x < 2 ^ m) where
  -- m bits and then k more behind them are m + k bits
  pub appended_twice : (y k : ℕ) → appended (appended l p x m) (p + m) y k ≡ appended l p (x + y * 2 ^ m) (m + k)
  unfolding appended
  appended_twice y k =
      let a : ℕ = p / 8 in
      let r : ℕ = p % 8 in
      let d : List ℕ = drop a l in
      let h : ℕ = get_or d 0 0 % 2 ^ r in
      let q : ℕ = r + m in
      let n : ℕ = x * 2 ^ r + h in
      let size : length (take a l) ≡ a = length-take-le a l (omega arith) in
      let place : p + m ≡ 8 * a + q = omega arith in
      let order : m + r ≡ q = omega arith in
      let below : n < 2 ^ q = rw (← order, pow-add) (digits_lt small (mod-lt (get_or d 0 0) (pow_pos r))) in
      let high : y * 2 ^ q ≡ y * 2 ^ m * 2 ^ r = rw (← order, pow-add) (sym (mul_assoc y (2 ^ m) (2 ^ r))) in
      let both : y * 2 ^ q + n ≡ (x + y * 2 ^ m) * 2 ^ r + h = omega (arith, add-mul x (y * 2 ^ m) (2 ^ r)) in
      let long : ceil (q + k) 8 ≡ ceil (r + (m + k)) 8 = omega arith in
      ap (λ (i : ℕ). appended (appended l p x m) i y k) place
      ∙ appended_part (take a l) (put d 0 (bytes (ceil q 8) n)) a q y k size
      ∙ ap (λ (v : List ℕ). take a l ++ v)
      (appended-bits d q k n y below ∙ ap₂ (λ (i z : ℕ). put d 0 (bytes i z)) long both)

-- the same of tests: m entries and then k more
pub words_twice : (l b c : List ℕ) (p m k q n : ℕ) (f : ℕ → Bool) → p ≤ 8 * length l → q ≡ p + m → n ≡ m + k
    → b ≡ appended l p (word m f) m → c ≡ appended b q (word k (λ i. f (m + i))) k → c ≡ appended l p (word n f) n
words_twice l b c p m k q n f room place whole e1 e2 =
    e2 ∙ ap₂ (λ (d : List ℕ) (j : ℕ). appended d j (word k (λ i. f (m + i))) k) e1 place
    ∙ appended_twice l p (word m f) m room (word_lt m f) (word k (λ i. f (m + i))) k
    ∙ ap (λ (x : ℕ). appended l p x (m + k)) (sym (word_add m k f))
    ∙ ap (λ (i : ℕ). appended l p (word i f) i) (sym whole)

-- ---- a run in progress

-- b is the list l with the first m bits of a run, x, from bit p on: whatever is put behind them goes on as one run
abbrev pub Begun : List ℕ → ℕ → ℕ → ℕ → List ℕ → Type 0
Begun l p x m b = (y k : ℕ) → appended b (p + m) y k ≡ appended l p (x + y * 2 ^ m) (m + k)

pub begun-none : (l : List ℕ) (p : ℕ) → Begun l p 0 0 l
begun-none l p y k =
    let first : p + 0 ≡ p = omega arith in
    let none : y ≡ 0 + y * 2 ^ 0 = omega arith in
    let size : k ≡ 0 + k = omega arith in
    ap (λ (i : ℕ). appended l i y k) first ∙ ap₂ (appended l p) none size

module _ (l b c : List ℕ) (p m k : ℕ) (room : p + m ≤ 8 * length b) where
  -- k bits more
  pub begun_more : (x v : ℕ) → v < 2 ^ k → Begun l p x m b → c ≡ appended b (p + m) v k
      → Begun l p (x + v * 2 ^ m) (m + k) c
  begun_more x v small h e y j =
      let place : p + (m + k) ≡ p + m + k = omega arith in
      let high : y * 2 ^ (m + k) ≡ y * 2 ^ k * 2 ^ m =
      rw (add_comm m k, pow-add) (sym (mul_assoc y (2 ^ k) (2 ^ m))) in
      let both : x + (v + y * 2 ^ k) * 2 ^ m ≡ x + v * 2 ^ m + y * 2 ^ (m + k) =
      omega (arith, add-mul v (y * 2 ^ k) (2 ^ m)) in
      ap₂ (λ (d : List ℕ) (i : ℕ). appended d i y j) e place
      ∙ appended_twice b (p + m) v k room small y j
      ∙ h (v + y * 2 ^ k) (k + j)
      ∙ ap₂ (appended l p) both (sym (add_assoc m k j))

  -- k entries more
  pub begun-words : (f : ℕ → Bool) → Begun l p (word m f) m b → c ≡ appended b (p + m) (word k (λ i. f (m + i))) k
      → Begun l p (word (m + k) f) (m + k) c
  begun-words f h e =
      rw (word_add m k f) (begun_more (word m f) (word k (λ i. f (m + i))) (word_lt k (λ i. f (m + i))) h e)

-- and the last
pub ended-words : (l b c : List ℕ) (p m k : ℕ) (f : ℕ → Bool) → Begun l p (word m f) m b
    → c ≡ appended b (p + m) (word k (λ i. f (m + i))) k
    → c ≡ appended l p (word (m + k) f) (m + k)
ended-words l b c p m k f h e =
    e ∙ h (word k (λ i. f (m + i))) k ∙ ap (λ (x : ℕ). appended l p x (m + k)) (sym (word_add m k f))
