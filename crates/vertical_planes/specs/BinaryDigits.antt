-- Two numbers compared, one binary digit more of both.
use Rattle.std.specs.Prelude.{◌≡◌, refl, Bool, ◌&&◌, ◌||◌, ℕ, ◌+◌, ◌*◌, ◌<◌, ltb}
use Rattle.std.proofs.Common.{sym, ap₂, ◌∙◌, arith, lt-ltb, le-ltb, eq-eqb, ne_eqb, ltb-true, ltb-false, eqb-true}
use Rattle.std.proofs.Math.Bool.{true, false, not, xor, and_comm}
use Rattle.std.proofs.Math.Dec.{eqb}
use Rattle.std.proofs.lemmas.Bool.{eqb-false}
use Rattle.rules.specs.Bits.{flag}
use Rattle.words.specs.Bits.{flag_lt}

-- how two numbers stand, with what each test says
data Order (x y : ℕ) : Type 0 where
  less : x < y → ltb x y ≡ true → eqb x y ≡ false → Order x y
  equal : x ≡ y → ltb x y ≡ false → eqb x y ≡ true → Order x y
  more : y < x → ltb x y ≡ false → eqb x y ≡ false → Order x y

order : (x y : ℕ) → Order x y
order x y = go (ltb x y) refl (eqb x y) refl
  where
    go : (s : Bool) → ltb x y ≡ s → (t : Bool) → eqb x y ≡ t → Order x y
    go true e t f = less (ltb-true x y e) e (ne_eqb x y (omega (arith, ltb-true x y e)))
    go false e true f = equal (eqb-true x y f) e f
    go false e false f = more (omega (arith, ltb-false x y e, eqb-false x y f)) e f

-- above is neither below nor equal
pub above-not : (x y : ℕ) → ltb y x ≡ not (ltb x y || eqb x y)
above-not x y = go (order x y)
  where
    go : Order x y → ltb y x ≡ not (ltb x y || eqb x y)
    go (less h e f) = rw e (le-ltb y x (omega arith))
    go (equal h e f) = rw (e, f) (le-ltb y x (omega arith))
    go (more h e f) = rw (e, f) (lt-ltb y x h)

-- neither side comes first
equal-sym : (x y : ℕ) → eqb x y ≡ eqb y x
equal-sym x y = go (order x y)
  where
    go : Order x y → eqb x y ≡ eqb y x
    go (less h e f) = f ∙ sym (ne_eqb y x (omega arith))
    go (equal h e f) = f ∙ sym (eq-eqb y x (omega arith))
    go (more h e f) = f ∙ sym (ne_eqb y x (omega arith))

-- x with the digit s behind it, and y with the digit t
module _ (x y : ℕ) where
  abbrev left : Bool → ℕ
  left s = x * 2 + flag s

  abbrev right : Bool → ℕ
  right t = y * 2 + flag t

  pub digit-equal : (s t : Bool) → eqb (left s) (right t) ≡ (eqb x y && not (xor s t))
  unfolding xor
  digit-equal = go (order x y)
    where
      go : Order x y → (s t : Bool) → eqb (left s) (right t) ≡ (eqb x y && not (xor s t))
      go (less h e f) s t = rw f (ne_eqb (left s) (right t) (omega (arith, flag_lt s, flag_lt t)))
      go (equal h e f) true true = rw f (eq-eqb (left true) (right true) (omega arith))
      go (equal h e f) true false = rw f (ne_eqb (left true) (right false) (omega arith))
      go (equal h e f) false true = rw f (ne_eqb (left false) (right true) (omega arith))
      go (equal h e f) false false = rw f (eq-eqb (left false) (right false) (omega arith))
      go (more h e f) s t = rw f (ne_eqb (left s) (right t) (omega (arith, flag_lt s, flag_lt t)))

  pub digit-less : (s t : Bool) → ltb (left s) (right t) ≡ (ltb x y || (eqb x y && (not s && t)))
  digit-less = go (order x y)
    where
      go : Order x y → (s t : Bool) → ltb (left s) (right t) ≡ (ltb x y || (eqb x y && (not s && t)))
      go (less h e f) s t = rw e (lt-ltb (left s) (right t) (omega (arith, flag_lt s, flag_lt t)))
      go (equal h e f) true t = rw (e, f) (le-ltb (left true) (right t) (omega (arith, flag_lt t)))
      go (equal h e f) false true = rw (e, f) (lt-ltb (left false) (right true) (omega arith))
      go (equal h e f) false false = rw (e, f) (le-ltb (left false) (right false) (omega arith))
      go (more h e f) s t = rw (e, f) (le-ltb (left s) (right t) (omega (arith, flag_lt s, flag_lt t)))

-- the same with the sides exchanged
pub digit-more : (x y : ℕ) (s t : Bool)
    → ltb (y * 2 + flag t) (x * 2 + flag s) ≡ (ltb y x || (eqb x y && (s && not t)))
digit-more x y s t =
    digit-less y x t s ∙ ap₂ (λ (u v : Bool). ltb y x || (u && v)) (equal-sym y x) (and_comm (not t) s)
