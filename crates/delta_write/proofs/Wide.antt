-- A signed number of 32 bits as one of 64.
use Rattle.std.proofs.Common.{◌≡◌, ℤ, ap, ◌∙◌, arith, w32, w64, SFits, to_z, of_z}
use Rattle.signed.proofs.Signs.{kept}

module _ (z : ℤ) (fits : SFits w32 z) where
  wider : SFits w64 z
  wider = let h = fits.sfits in record { sfits = omega arith }

  pub wide_fits : SFits w64 (to_z w32 (of_z w32 z))
  wide_fits = rw (kept w32 z fits) wider

  pub wide_is : to_z w64 (of_z w64 (to_z w32 (of_z w32 z))) ≡ z
  wide_is = ap (λ (y : ℤ). to_z w64 (of_z w64 y)) (kept w32 z fits) ∙ kept w64 z wider
