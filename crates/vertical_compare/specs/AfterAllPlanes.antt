-- After the last plane: which lanes are below an end and which equal it, and the two ends together.
use Rattle.std.specs.Prelude.{◌≡◌, refl, Bool, true, false, ◌||◌, List, ℕ, ◌-◌, ◌^◌, ltb, leb, eqb, ℤ, pos, negsuc}
use Rattle.std.proofs.Common.{sym, ap, div-one, arith, le-leb, eq-eqb, ne_eqb, ltb-true, ltb-false, leb-true, leb-false}
use Rattle.std.proofs.Math.Path.{ap₂}
use Rattle.std.proofs.Math.Bool.{◌&&◌}
use Rattle.std.specs.Int.Bits.{bit_and, bit_or}
use Rattle.std.specs.Int.Signed.{lt_z, le_z, shr_z}
use Rattle.rules.specs.Bits.{word}
use Rattle.rules.specs.Comparison.{between}
use Rattle.rules.specs.Vertical.{lane}
use Rattle.words.specs.Bits.{word_and, word_or, word-not, word-ext}
use Rattle.signed.specs.Order.{not_lt_z}
use Rattle.vertical_compare.specs.Ends.{same, end_at}

-- with no planes to come, all the constant's bits count
shift_none : (z : ℤ) → shr_z z (2 ^ 0) ≡ z
shift_none (pos c) = ap pos (div-one c)
shift_none (negsuc c) = ap negsuc (div-one c)

-- at most z is below it or equal
at_most : (x : ℕ) (z : ℤ) → (lt_z (pos x) z || same x z) ≡ le_z (pos x) z
at_most x (pos c) = go (ltb x c) (leb x c) refl refl
  where
    go : (s t : Bool) → ltb x c ≡ s → leb x c ≡ t → (ltb x c || eqb x c) ≡ leb x c
    go true t e f = rw e (sym (le-leb x c (omega (arith, ltb-true x c e))))
    go false true e f = rw (e, f) (eq-eqb x c (omega (arith, ltb-false x c e, leb-true x c f)))
    go false false e f = rw (e, f) (ne_eqb x c (omega (arith, leb-false x c f)))
at_most x (negsuc c) = refl

module _ (n : ℕ) (planes : List ℕ) (w : ℕ) where
  -- the lanes below a constant, whatever whole number it is
  pub less_end : (z : ℤ) → (end_at n planes w 0 z).less ≡ word n (λ j. lt_z (pos (lane planes 0 w j)) z)
  unfolding end_at
  less_end z = rw (shift_none z)

  same_end : (z : ℤ) → (end_at n planes w 0 z).undecided ≡ word n (λ j. same (lane planes 0 w j) z)
  unfolding end_at
  same_end z = rw (shift_none z)

  -- not below the low end, and below the high end or equal to it
  pub ends-between : (low high : ℤ)
      → bit_and (2 ^ n - 1 - (end_at n planes w 0 low).less)
      (bit_or (end_at n planes w 0 high).less (end_at n planes w 0 high).undecided)
      ≡ word n (λ j. between low high (pos (lane planes 0 w j)))
  unfolding between
  ends-between low high =
      rw (less_end low, less_end high, same_end high, word-not, word_or, word_and)
      (word-ext n (λ j _. ap₂ ◌&&◌ (sym (not_lt_z low (pos (lane planes 0 w j)))) (at_most (lane planes 0 w j) high)))
