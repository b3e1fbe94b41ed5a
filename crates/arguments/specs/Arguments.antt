-- The arguments of a scan, judged in the written order.
use Rattle.std.specs.Prelude.{◌≡◌, refl, ℕ, zero, suc, ℤ, Option, Some, None, Result, Ok, Err}
use Rattle.compare.specs.Band.{band_of}
use Rattle.compare.specs.declared.bands.Band.{Band}
use Rattle.rules.specs.Refusals.{code}
use Rattle.rules.specs.declared.Refusal.{Refusal}

-- the band of good arguments, or the code of what is wrong
pub data Arguments : Type 0 where
  Good : Band → Arguments
  Bad : ℕ → Arguments

-- a judgement by its number
abbrev pub arguments : Result Band Refusal → Arguments
arguments (Ok band) = Good band
arguments (Err r) = Bad (code r)

-- the limits' code first, then the operator's
unfoldable pub judged : ℕ → Option Band → Arguments
judged zero (Some band) = Good band
judged zero None = Bad 3
judged (suc code) comparison = Bad (suc code)

unfoldable pub arguments_of : ℕ → ℕ → ℤ → ℤ → Arguments
arguments_of limits op a b = judged limits (band_of op a b)

-- a code that was found is the judgement, whatever the comparison
pub judged-found : (code : ℕ) (comparison : Option Band) → (code ≡ 0 → ⊥) → Bad code ≡ judged code comparison
unfolding judged
judged-found zero comparison some = absurd (some refl)
judged-found (suc code) comparison some = refl
