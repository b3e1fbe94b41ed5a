-- A comparison of two numbers, one binary digit more of both.
use Rattle.std.specs.Prelude.{◌≡◌, refl, Bool, true, false, ℕ, ◌+◌, ◌-◌, ◌*◌, ◌/◌, ◌%◌, ◌<◌, min, max, ltb, eqb}
use Rattle.std.proofs.Common.{ap, arith, ne_eqb, ltb-true, ltb-false, eqb-true}
use Rattle.std.proofs.lemmas.Bool.{eqb-false}
use Rattle.rules.specs.Bits.{flag}

-- how two numbers stand, with what each test says as a bit
data Order (x y : ℕ) : Type 0 where
  below : x < y → flag (ltb x y) ≡ 1 → flag (eqb x y) ≡ 0 → Order x y
  equal : x ≡ y → flag (ltb x y) ≡ 0 → flag (eqb x y) ≡ 1 → Order x y
  above : y < x → flag (ltb x y) ≡ 0 → flag (eqb x y) ≡ 0 → Order x y

order : (x y : ℕ) → Order x y
order x y = go (ltb x y) refl (eqb x y) refl
  where
    go : (s : Bool) → ltb x y ≡ s → (t : Bool) → eqb x y ≡ t → Order x y
    go true e t f = below (ltb-true x y e) (ap flag e) (ap flag (ne_eqb x y (omega (arith, ltb-true x y e))))
    go false e true f = equal (eqb-true x y f) (ap flag e) (ap flag f)
    go false e false f = above (omega (arith, ltb-false x y e, eqb-false x y f)) (ap flag e) (ap flag f)

-- x with the digit b behind it against y, by x against the digits of y above its last, and by that last one
abbrev pub Digit : ℕ → ℕ → ℕ → Type 0
Digit x y b =
    (y % 2 ≡ 1
    → (max (flag (ltb x (y / 2))) (min (flag (eqb x (y / 2))) (1 - b)) ≡ flag (ltb (x * 2 + b) y))
    × (min (flag (eqb x (y / 2))) b ≡ flag (eqb (x * 2 + b) y)))
    × (y % 2 ≡ 0
    → (flag (ltb x (y / 2)) ≡ flag (ltb (x * 2 + b) y))
    × (min (flag (eqb x (y / 2))) (1 - b) ≡ flag (eqb (x * 2 + b) y)))

pub digit : (x y b : ℕ) → b < 2 → Digit x y b
digit x y b small = go (order x (y / 2)) (order (x * 2 + b) y)
  where
    go : Order x (y / 2) → Order (x * 2 + b) y → Digit x y b
    go (below h k l) (below h' k' l') = omega arith
    go (below h k l) (equal h' k' l') = omega arith
    go (below h k l) (above h' k' l') = omega arith
    go (equal h k l) (below h' k' l') = omega arith
    go (equal h k l) (equal h' k' l') = omega arith
    go (equal h k l) (above h' k' l') = omega arith
    go (above h k l) (below h' k' l') = omega arith
    go (above h k l) (equal h' k' l') = omega arith
    go (above h k l) (above h' k' l') = omega arith
