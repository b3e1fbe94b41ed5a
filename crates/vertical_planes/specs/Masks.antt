-- A constant's bits laid out over the lanes, one by one.
use Rattle.std.specs.Prelude.{◌≡◌, refl, Bool, true, false, List, ℕ, ◌+◌, ◌-◌, ◌<◌, eqb, ℤ, pos, negsuc, nat_abs, length, get_or, set}
use Rattle.std.proofs.Common.{◌∙◌, true≢false, arith, get_or-set_same, get_or-set_other, ltb-true, eqb-true}
use Rattle.std.specs.Int.Signed.{lt_z}
use Rattle.std.proofs.lemmas.Bool.{eqb-false}
use Rattle.vertical_planes.specs.Ends.{bits_of, laid, LaidOut}

-- the number whose bits are read
pub bits_below : (z : ℤ) → lt_z z (pos 0) ≡ true → 0 ≡ bits_of z
bits_below (pos c) e = absurd (omega (arith, ltb-true c 0 e))
bits_below (negsuc c) e = refl

pub bits-whole : (z : ℤ) → lt_z z (pos 0) ≡ false → nat_abs z ≡ bits_of z
bits-whole (pos c) e = refl
bits-whole (negsuc c) e = absurd (true≢false e)

-- one more
pub laid_next : (masks : List ℕ) (w c m x : ℕ) → m < length masks → x ≡ laid c (w - 1 - m)
    → LaidOut masks w c m → LaidOut (set masks m x) w c (m + 1)
laid_next masks w c m x room e before k h = go (eqb k m) refl
  where
    go : (t : Bool) → eqb k m ≡ t → get_or (set masks m x) k 0 ≡ laid c (w - 1 - k)
    go true f = rw (eqb-true k m f) (get_or-set_same masks m x 0 room ∙ e)
    go false f =
        get_or-set_other masks m k x 0 (eqb-false k m f) ∙ before k (omega (arith, eqb-false k m f))
