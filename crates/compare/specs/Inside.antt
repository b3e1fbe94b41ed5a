-- The laws of `inside`, of one entry: where it stands to the ends, the test by one difference, and the ends cut to
-- w bits.
use Rattle.std.specs.Prelude.{◌≡◌, ℕ, ◌+◌, ◌-◌, ◌%◌, ◌^◌, ◌<◌, ◌≤◌, min, Bool, true, false, ◌&&◌, nat_le}
use Rattle.std.proofs.Math.Path.{refl}
use Rattle.std.proofs.Common.{sym, ◌∙◌, arith}
use borrow.Author.Tests.{leb-true, leb-false, le-leb, lt-leb}
use Rattle.compare.specs.Range.{inside}

module _ (lo hi x : ℕ) where
  pub inside-true : lo ≤ x → x ≤ hi → inside lo hi x ≡ true
  unfolding inside
  inside-true h k = rw (le-leb lo x h, le-leb x hi k)

  pub inside-low : x < lo → inside lo hi x ≡ false
  unfolding inside
  inside-low h = rw (lt-leb lo x h)

  pub inside-high : hi < x → inside lo hi x ≡ false
  unfolding inside
  inside-high h = go (nat_le lo x)
    where
      go : (t : Bool) → (t && nat_le x hi) ≡ false
      go true = lt-leb x hi h
      go false = refl

-- where an entry stands to the ends
pub data Place (lo hi x : ℕ) : Type 0 where
  low : x < lo → inside lo hi x ≡ false → Place lo hi x
  high : hi < x → inside lo hi x ≡ false → Place lo hi x
  within : lo ≤ x → x ≤ hi → inside lo hi x ≡ true → Place lo hi x

pub place : (lo hi x : ℕ) → Place lo hi x
place lo hi x = go (nat_le lo x) (nat_le x hi) refl refl
  where
    go : (s t : Bool) → nat_le lo x ≡ s → nat_le x hi ≡ t → Place lo hi x
    go false t e f = low (leb-false lo x e) (inside-low lo hi x (leb-false lo x e))
    go true false e f = high (leb-false x hi f) (inside-high lo hi x (leb-false x hi f))
    go true true e f =
        within (leb-true lo x e) (leb-true x hi f) (inside-true lo hi x (leb-true lo x e) (leb-true x hi f))

-- the same by one comparison, of a difference that wraps
pub by_difference : (lo span x d : ℕ) → lo + span < 4294967296 → x < 4294967296 → d < 4294967296
    → (d + lo) % 4294967296 ≡ x
    → nat_le d span ≡ inside lo (lo + span) x
by_difference lo span x d fits hx hd e = go (place lo (lo + span) x)
  where
    go : Place lo (lo + span) x → nat_le d span ≡ inside lo (lo + span) x
    go (low h k) = lt-leb d span (omega arith) ∙ sym k
    go (high h k) = lt-leb d span (omega arith) ∙ sym k
    go (within h i k) = le-leb d span (omega arith) ∙ sym k

-- ends cut to w bits select the same entries of w bits
pub inside-cut : (w lo hi x : ℕ) → x < 2 ^ w → inside (min lo (2 ^ w)) (min hi (2 ^ w - 1)) x ≡ inside lo hi x
inside-cut w lo hi x h = go (place lo hi x)
  where
    go : Place lo hi x → inside (min lo (2 ^ w)) (min hi (2 ^ w - 1)) x ≡ inside lo hi x
    go (low l k) = inside-low (min lo (2 ^ w)) (min hi (2 ^ w - 1)) x (omega arith) ∙ sym k
    go (high l k) = inside-high (min lo (2 ^ w)) (min hi (2 ^ w - 1)) x (omega arith) ∙ sym k
    go (within i l k) = inside-true (min lo (2 ^ w)) (min hi (2 ^ w - 1)) x (omega arith) (omega arith) ∙ sym k
