-- No entry is too large, as a test of the list and as a bound on each place.
use Rattle.std.specs.Prelude.{◌≡◌, refl, Bool, true, false, ◌||◌, List, [], ◌∷◌, ℕ, zero, suc, ◌^◌, leb, take, drop}
use Rattle.std.proofs.Common.{sym, ap, ap₂, ◌∙◌, true≢false, arith, pow_pos, leb-true, leb-false, le-leb}
use Rattle.std.proofs.Math.Bool.{or_assoc, or-false}
use Rattle.std.specs.Int.Bits.{bit_or, or_add_and}
use Rattle.std.proofs.lemmas.Nat.{or_lt, and_le_l, and_le_r}
use Rattle.std.proofs.lemmas.Bool.{lt-leb}
use Rattle.std.specs.List.{fold}
use Rattle.rules.specs.Answer.{any_large, large_fault}
use Rattle.answers.specs.Laws.{not-faulty}
use Rattle.words.specs.Joined.{Small, small-take, small-drop}

neither : (a b : Bool) → a || b ≡ false → (a ≡ false) × (b ≡ false)
neither true b e = absurd (true≢false e)
neither false b e = (refl, e)

-- where the test finds none, each place is below 2^w, and the other way round
pub small_of : (w : ℕ) (xs : List ℕ) → any_large w xs ≡ false → Small w xs
unfolding any_large
small_of w [] e k = pow_pos w
small_of w (x ∷ xs) e zero = leb-false (2 ^ w) x (neither (leb (2 ^ w) x) (any_large w xs) e).0
small_of w (x ∷ xs) e (suc k) = small_of w xs (neither (leb (2 ^ w) x) (any_large w xs) e).1 k

pub large_of : (w : ℕ) (xs : List ℕ) → Small w xs → any_large w xs ≡ false
unfolding any_large
large_of w [] h = refl
large_of w (x ∷ xs) h = ap₂ ◌||◌ (lt-leb (2 ^ w) x (h zero)) (large_of w xs (λ k. h (suc k)))

-- nor in a part of the list
pub large_part : (w m p : ℕ) (xs : List ℕ) → any_large w xs ≡ false → any_large w (take m (drop p xs)) ≡ false
large_part w m p xs e =
    large_of w (take m (drop p xs)) (small-take w m (drop p xs) (small-drop w p xs (small_of w xs e)))

-- ---- the bits of all entries together

-- a power of 2 is reached by the bits of both where it is reached by one
large_or : (w a b : ℕ) → leb (2 ^ w) (bit_or a b) ≡ (leb (2 ^ w) a || leb (2 ^ w) b)
large_or w a b = go (leb (2 ^ w) a) (leb (2 ^ w) b) refl refl
  where
    go : (s t : Bool) → leb (2 ^ w) a ≡ s → leb (2 ^ w) b ≡ t → leb (2 ^ w) (bit_or a b) ≡ (s || t)
    go true t e f = le-leb (2 ^ w) (bit_or a b) (omega (arith, leb-true (2 ^ w) a e, or_add_and a b, and_le_r a b))
    go false true e f = le-leb (2 ^ w) (bit_or a b) (omega (arith, leb-true (2 ^ w) b f, or_add_and a b, and_le_l a b))
    go false false e f = lt-leb (2 ^ w) (bit_or a b) (or_lt w a b (leb-false (2 ^ w) a e) (leb-false (2 ^ w) b f))

-- and so by the bits of all
from_here : (w a : ℕ) (xs : List ℕ) → leb (2 ^ w) (fold bit_or a xs) ≡ (leb (2 ^ w) a || any_large w xs)
unfolding any_large
from_here w a [] = sym (or-false (leb (2 ^ w) a))
from_here w a (x ∷ xs) =
    from_here w (bit_or a x) xs ∙ ap (λ (t : Bool). t || any_large w xs) (large_or w a x)
    ∙ or_assoc (leb (2 ^ w) a) (leb (2 ^ w) x) (any_large w xs)

pub large_fold : (w : ℕ) (xs : List ℕ) → leb (2 ^ w) (fold bit_or 0 xs) ≡ any_large w xs
large_fold w xs =
    from_here w 0 xs ∙ ap (λ (t : Bool). t || any_large w xs) (lt-leb (2 ^ w) 0 (pow_pos w))

-- where the listed fault is not there, no entry is too large
pub fits_of : (w : ℕ) (xs : List ℕ) → large_fault w xs ≡ 0 → any_large w xs ≡ false
unfolding large_fault
fits_of w xs e = not-faulty _ 8 (λ h. omega arith) e
