-- The order of whole numbers, by its tests.
use Rattle.std.specs.Prelude.{◌≡◌, ℕ, ◌<◌, ◌≤◌, Bool, true, false, not, ℤ, pos, negsuc, int_le, int_lt, nat_le, nat_lt, refl}
use Rattle.std.proofs.Common.{sym, ap, ◌∙◌, true≢false, arith, lt-ltb, le-ltb, le-leb, ltb-true, ltb-false, leb-true, leb-false}
use Rattle.std.proofs.Math.Bool.{not-not}

-- two tests agree where each answer of the first is one of the second
pub same-ltb : (a b c d : ℕ) → (a < b → c < d) → (b ≤ a → d ≤ c) → nat_lt c d ≡ nat_lt a b
same-ltb a b c d below not-below = go (nat_lt a b) refl
  where
    go : (t : Bool) → nat_lt a b ≡ t → nat_lt c d ≡ nat_lt a b
    go true e = lt-ltb c d (below (ltb-true a b e)) ∙ sym e
    go false e = le-ltb c d (not-below (ltb-false a b e)) ∙ sym e

pub same-leb : (a b c d : ℕ) → (a ≤ b → c < d) → (b < a → d ≤ c) → nat_lt c d ≡ nat_le a b
same-leb a b c d most over = go (nat_le a b) refl
  where
    go : (t : Bool) → nat_le a b ≡ t → nat_lt c d ≡ nat_le a b
    go true e = lt-ltb c d (most (leb-true a b e)) ∙ sym e
    go false e = le-ltb c d (over (leb-false a b e)) ∙ sym e

-- ---- what is not below is at least

pub not-ltb : (m n : ℕ) → nat_le m n ≡ not (nat_lt n m)
not-ltb m n = go (nat_le m n) refl
  where
    go : (t : Bool) → nat_le m n ≡ t → nat_le m n ≡ not (nat_lt n m)
    go true e = e ∙ sym (ap not (le-ltb n m (leb-true m n e)))
    go false e = e ∙ sym (ap not (lt-ltb n m (leb-false m n e)))

pub not_lt_z : (a b : ℤ) → int_le a b ≡ not (int_lt b a)
not_lt_z (pos m) (pos n) = not-ltb m n
not_lt_z (pos m) (negsuc n) = refl
not_lt_z (negsuc m) (pos n) = refl
not_lt_z (negsuc m) (negsuc n) = not-ltb n m

pub not_le_z : (a b : ℤ) → int_lt a b ≡ not (int_le b a)
not_le_z a b = sym (not-not (int_lt a b)) ∙ ap not (sym (not_lt_z b a))

-- ---- at most

pub le_z-refl : (a : ℤ) → int_le a a ≡ true
le_z-refl (pos n) = le-leb n n (omega arith)
le_z-refl (negsuc n) = le-leb n n (omega arith)

-- at most and at least is equal
pub le_z_antisym : (a x : ℤ) → int_le a x ≡ true → int_le x a ≡ true → x ≡ a
le_z_antisym (pos m) (pos n) e f = ap pos (omega (arith, leb-true m n e, leb-true n m f))
le_z_antisym (pos m) (negsuc n) e f = absurd (true≢false (sym e))
le_z_antisym (negsuc m) (pos n) e f = absurd (true≢false (sym f))
le_z_antisym (negsuc m) (negsuc n) e f = ap negsuc (omega (arith, leb-true n m e, leb-true m n f))

pub le_z_trans : (a b c : ℤ) → int_le a b ≡ true → int_le b c ≡ true → int_le a c ≡ true
le_z_trans (pos a) (pos b) (pos c) e f = le-leb a c (omega (arith, leb-true a b e, leb-true b c f))
le_z_trans (pos a) (pos b) (negsuc c) e f = f
le_z_trans (pos a) (negsuc b) c e f = absurd (true≢false (sym e))
le_z_trans (negsuc a) b (pos c) e f = refl
le_z_trans (negsuc a) (pos b) (negsuc c) e f = absurd (true≢false (sym f))
le_z_trans (negsuc a) (negsuc b) (negsuc c) e f = le-leb c a (omega (arith, leb-true b a e, leb-true c b f))

-- what is not at most is at least
pub le_z_total : (a b : ℤ) → int_le a b ≡ false → int_le b a ≡ true
le_z_total (pos a) (pos b) e = le-leb b a (omega (arith, leb-false a b e))
le_z_total (pos a) (negsuc b) e = refl
le_z_total (negsuc a) (pos b) e = absurd (true≢false e)
le_z_total (negsuc a) (negsuc b) e = le-leb a b (omega (arith, leb-false b a e))
