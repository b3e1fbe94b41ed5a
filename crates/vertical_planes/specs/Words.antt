-- Words of 64 lanes: what their lanes have, and words that have the same in all lanes.
use Rattle.std.specs.Prelude.{◌≡◌, refl, Bool, true, false, cond, ℕ, zero, suc, ◌-◌, ◌^◌, ◌<◌, eqb}
use Rattle.std.proofs.Common.{sym, ap, ◌∙◌, arith}
use Rattle.std.proofs.Math.Bool.{xor}
use Rattle.std.specs.Int.Bits.{bit_xor, differ}
use Rattle.rules.specs.Bits.{bit, flag, word}
use Rattle.words.specs.Bits.{bit_lt, bit_word, bit-xor, word_of, word_none, word_all}
use Rattle.vertical_planes.specs.Ends.{laid}
use Rattle.vertical_planes.specs.Standing.{has}

-- a bit is what the test of it says
pub has-flag : (x k : ℕ) → bit x k ≡ flag (has x k)
has-flag x k = go (bit x k) (bit_lt x k)
  where
    go : (b : ℕ) → b < 2 → b ≡ flag (eqb b 1)
    go zero h = refl
    go (suc zero) h = refl
    go (suc (suc b)) h = absurd (omega arith)

pub has_word : (f : ℕ → Bool) (j : ℕ) → j < 64 → has (word 64 f) j ≡ f j
has_word f j h = ap (λ (b : ℕ). eqb b 1) (bit_word 64 f j h) ∙ go (f j)
  where
    go : (t : Bool) → eqb (flag t) 1 ≡ t
    go true = refl
    go false = refl

-- a plane is the word of its lanes' bits
pub word-has : (x : ℕ) → x < 2 ^ 64 → x ≡ word 64 (has x)
word-has x h = word_of 64 (has x) h (λ k l. has-flag x k)

pub has-xor : (a b k : ℕ) → has (bit_xor a b) k ≡ xor (has a k) (has b k)
unfolding xor
has-xor a b k = ap (λ (c : ℕ). eqb c 1) (bit-xor a b k) ∙ go (bit a k) (bit b k) (bit_lt a k) (bit_lt b k)
  where
    go : (c d : ℕ) → c < 2 → d < 2 → eqb (differ c d) 1 ≡ xor (eqb c 1) (eqb d 1)
    go zero zero h l = refl
    go zero (suc zero) h l = refl
    go (suc zero) zero h l = refl
    go (suc zero) (suc zero) h l = refl
    go zero (suc (suc d)) h l = absurd (omega arith)
    go (suc zero) (suc (suc d)) h l = absurd (omega arith)
    go (suc (suc c)) d h l = absurd (omega arith)

-- ---- the same in all lanes

pub all_lanes : (t : Bool) → cond t (2 ^ 64 - 1) 0 ≡ word 64 (λ _. t)
all_lanes true = sym (word_all 64)
all_lanes false = sym (word_none 64)

pub laid_word : (c k : ℕ) → laid c k ≡ word 64 (λ _. has c k)
unfolding laid
laid_word c k = all_lanes (has c k)

pub none-same : (t : Bool) → word 64 (λ _. t) ≡ 0 → t ≡ false
none-same true e = absurd (omega (arith, word_all 64))
none-same false e = refl

pub some_same : (t : Bool) → (word 64 (λ _. t) ≡ 0 → ⊥) → t ≡ true
some_same true f = refl
some_same false f = absurd (f (word_none 64))
