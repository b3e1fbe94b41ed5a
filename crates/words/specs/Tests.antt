-- What holds of a choice, by what the test says.
use Rattle.std.specs.Prelude.{◌≡◌, refl, Bool, true, false, cond, ◌&&◌, ◌||◌}
use Rattle.std.proofs.Common.{sym, true≢false}

-- what both ways of a test give, the test gives
pub either : {A : Type 0} {x y : A} (P : A → Type 0) (test : Bool) → (test ≡ true → P x) → (test ≡ false → P y)
    → P (cond test x y)
either P true f g = f refl
either P false f g = g refl

pub both : (a b : Bool) → (a && b) ≡ true → (a ≡ true) × (b ≡ true)
both true b e = (refl, e)
both false b e = absurd (true≢false (sym e))

pub neither : (a b : Bool) → a || b ≡ false → (a ≡ false) × (b ≡ false)
neither true b e = absurd (true≢false e)
neither false b e = (refl, e)
