-- That the table of operators is document 01's: what each number means, and which are each other's complements.
use Rattle.std.specs.Prelude.{◌≡◌, ℕ, ◌<◌, Bool, true, false, not, ◌&&◌, ◌↔◌, ℤ, pos, negsuc, int_le, int_lt}
use Rattle.std.proofs.Math.Path.{refl, sym}
use Rattle.std.proofs.Common.{ap, ◌∙◌, true≢false, arith, ltb-true, leb-true}
use Rattle.std.proofs.Math.Bool.{and-eq-true_iff}
use Rattle.std.proofs.Math.Seq.{get_or-take}
use Rattle.std.proofs.lemmas.Bool.{lt-leb}
use Rattle.rules.specs.Comparison.{between, operators, holds}
use Rattle.signed.specs.Order.{not_lt_z, not_le_z, le_z-refl, le_z_antisym}

-- where b is below a, nothing is at least a and at most b
le_z_empty : (a b x : ℤ) → int_lt b a ≡ true → int_le a x ≡ true → int_le x b ≡ false
le_z_empty (pos m) (pos n) (pos k) h e = lt-leb k n (omega (arith, ltb-true n m h, leb-true m k e))
le_z_empty (pos m) b (negsuc k) h e = absurd (true≢false (sym e))
le_z_empty (pos m) (negsuc n) (pos k) h e = refl
le_z_empty (negsuc m) (pos n) x h e = absurd (true≢false (sym h))
le_z_empty (negsuc m) (negsuc n) (pos k) h e = refl
le_z_empty (negsuc m) (negsuc n) (negsuc k) h e = lt-leb n k (omega (arith, ltb-true m n h, leb-true k m e))

module _ (a b x : ℤ) where
  pub equal : (holds 0 a b x ≡ true) ↔ (x ≡ a)
  unfolding holds operators between
  equal = (
    λ e. let both = (and-eq-true_iff (int_le a x) (int_le x a)).0 e in le_z_antisym a x both.0 both.1,
    λ e. rw (e, le_z-refl a),
  )

  pub not_equal : holds 1 a b x ≡ not (holds 0 a b x)
  unfolding holds operators
  not_equal = refl

  -- greater is not less or equal
  pub greater : holds 4 a b x ≡ not (holds 3 a b x)
  unfolding holds operators
  greater = not_le_z a x

  -- greater or equal is not less
  pub greater_or_equal : holds 5 a b x ≡ not (holds 2 a b x)
  unfolding holds operators
  greater_or_equal = not_lt_z a x

  -- from a to b is at least a, and at most b
  pub from_to : holds 6 a b x ≡ (holds 5 a b x && holds 3 b b x)
  unfolding holds operators between
  from_to = refl

  pub not_from_to : holds 7 a b x ≡ not (holds 6 a b x)
  unfolding holds operators
  not_from_to = refl

  -- if a > b, operator 6 selects nothing and 7 everything
  pub nothing : int_lt b a ≡ true → holds 6 a b x ≡ false
  unfolding holds operators between
  nothing h = go (int_le a x) refl
    where
      go : (t : Bool) → int_le a x ≡ t → (int_le a x && int_le x b) ≡ false
      go true e = rw e (le_z_empty a b x h e)
      go false e = rw e

  pub everything : int_lt b a ≡ true → holds 7 a b x ≡ true
  everything h = not_from_to ∙ ap not (nothing h)

  -- operators 0 to 5 ignore b
  pub ignores : (op : ℕ) (b' : ℤ) → op < 6 → holds op a b x ≡ holds op a b' x
  unfolding holds operators
  ignores op b' h = sym (get_or-take 6 (operators a b x) op false h) ∙ get_or-take 6 (operators a b' x) op false h
