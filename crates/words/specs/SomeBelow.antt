-- The laws of `some_below`: that some number below n passes, or that none does, said of each; of tests that agree,
-- of one range behind another, and of the word that a test makes.
use Rattle.std.specs.Prelude.{◌≡◌, refl, Bool, true, false, ◌||◌, ℕ, zero, suc, ◌+◌, ◌*◌, ◌<◌, ltb}
use Rattle.std.proofs.Common.{sym, ap, ap₂, ◌∙◌, true≢false, not-suc-le-zero, zero-add, add-zero, suc-add, arith}
use Rattle.std.proofs.Math.Bool.{or_assoc, or-false}
use Rattle.rules.specs.Bits.{flag, word, some_below}
use Rattle.words.specs.Bits.{word_or}
use Rattle.words.specs.Nonzero.{any_add, any_mul, any_or}
use Rattle.words.specs.Tests.{neither}

pub none_below : (n : ℕ) (test : ℕ → Bool) → ((k : ℕ) → k < n → test k ≡ false) → some_below n test ≡ false
unfolding some_below
none_below zero test h = refl
none_below (suc n) test h =
    ap₂ ◌||◌ (h zero (omega arith)) (none_below n (λ k. test (suc k)) (λ k l. h (suc k) (omega arith)))

pub below_none : (n : ℕ) (test : ℕ → Bool) → some_below n test ≡ false → (k : ℕ) → k < n → test k ≡ false
unfolding some_below
below_none zero test e k h = absurd (not-suc-le-zero h)
below_none (suc n) test e zero h = (neither (test zero) (some_below n (λ i. test (suc i))) e).0
below_none (suc n) test e (suc k) h =
    below_none n (λ i. test (suc i)) (neither (test zero) (some_below n (λ i. test (suc i))) e).1 k (omega arith)

-- one that passes is enough
pub some_below_lem : (n : ℕ) (test : ℕ → Bool) (k : ℕ) → k < n → test k ≡ true → some_below n test ≡ true
some_below_lem n test k h e = go (some_below n test) refl
  where
    go : (t : Bool) → some_below n test ≡ t → some_below n test ≡ true
    go true f = f
    go false f = absurd (true≢false (sym e ∙ below_none n test f k h))

-- tests that agree below n find alike
pub some-ext : (n : ℕ) {f g : ℕ → Bool} → ((k : ℕ) → k < n → f k ≡ g k) → some_below n f ≡ some_below n g
unfolding some_below
some-ext zero h = refl
some-ext (suc n) h = ap₂ ◌||◌ (h zero (omega arith)) (some-ext n (λ k l. h (suc k) (omega arith)))

-- among n and then m more
pub some_add : (n m : ℕ) (f : ℕ → Bool) → (some_below n f || some_below m (λ k. f (n + k))) ≡ some_below (n + m) f
unfolding some_below
some_add zero m f = some-ext m (λ k h. ap f (zero-add k)) ∙ ap (λ (k : ℕ). some_below k f) (sym (zero-add m))
some_add (suc n) m f =
    or_assoc (f zero) (some_below n (λ k. f (suc k))) (some_below m (λ k. f (suc n + k)))
    ∙ ap (λ (t : Bool). f zero || t)
    (ap (λ (t : Bool). some_below n (λ k. f (suc k)) || t) (some-ext m (λ k h. ap f (suc-add n k)))
    ∙ some_add n m (λ k. f (suc k)))
    ∙ ap (λ (k : ℕ). some_below k f) (sym (suc-add n m))

-- and one more
pub some_next : (n : ℕ) (f : ℕ → Bool) → (some_below n f || f n) ≡ some_below (n + 1) f
unfolding some_below
some_next n f =
    ap (λ (t : Bool). some_below n f || t) (ap f (sym (add-zero n)) ∙ sym (or-false (f (n + 0)))) ∙ some_add n 1 f

-- m times the same
pub some_same : (m : ℕ) (t : Bool) → 0 < m → some_below m (λ _. t) ≡ t
some_same m true h = some_below_lem m (λ _. true) 0 h refl
some_same m false h = none_below m (λ _. false) (λ k l. refl)

-- the even ones and the odd ones
pub some_halves : (n : ℕ) (f : ℕ → Bool)
    → (some_below n (λ k. f (2 * k)) || some_below n (λ k. f (2 * k + 1))) ≡ some_below (2 * n) f
unfolding some_below
some_halves zero f = refl
some_halves (suc n) f =
    let even : (k : ℕ) → 2 * suc k ≡ suc (suc (2 * k)) = λ k. omega arith in
    let odd : (k : ℕ) → 2 * suc k + 1 ≡ suc (suc (2 * k + 1)) = λ k. omega arith in
    ap₂ (λ (s t : Bool). (f 0 || s) || (f 1 || t)) (some-ext n (λ k h. ap f (even k)))
    (some-ext n (λ k h. ap f (odd k)))
    ∙ in_turn_lem (f 0) (f 1) _ _
    ∙ ap (λ (t : Bool). f 0 || (f 1 || t)) (some_halves n (λ k. f (suc (suc k))))
    ∙ ap (λ (k : ℕ). some_below k f) (sym (even n))
  where
    in_turn_lem : (a b c d : Bool) → ((a || c) || (b || d)) ≡ (a || (b || (c || d)))
    in_turn_lem true b c d = refl
    in_turn_lem false true true d = refl
    in_turn_lem false true false d = refl
    in_turn_lem false false c d = refl

-- the word of a test is not 0 just where some number passes
pub word_some : (n : ℕ) (f : ℕ → Bool) → ltb 0 (word n f) ≡ some_below n f
unfolding word some_below
word_some zero f = refl
word_some (suc n) f =
    any_add (flag (f zero)) (word n (λ k. f (suc k)) * 2)
    ∙ ap₂ ◌||◌ (go (f zero))
    (any_mul (word n (λ k. f (suc k))) 2 (omega arith) ∙ word_some n (λ k. f (suc k)))
  where
    go : (t : Bool) → ltb 0 (flag t) ≡ t
    go true = refl
    go false = refl

-- some number passes one of two tests
pub some_or : (n : ℕ) (f g : ℕ → Bool) → some_below n (λ k. f k || g k) ≡ (some_below n f || some_below n g)
some_or n f g =
    sym (word_some n (λ k. f k || g k)) ∙ ap (ltb 0) (sym (word_or n f g)) ∙ any_or (word n f) (word n g)
    ∙ ap₂ ◌||◌ (word_some n f) (word_some n g)
