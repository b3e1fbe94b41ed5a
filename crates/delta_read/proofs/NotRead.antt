-- A field that is no read number refuses the code.
use Rattle.std.specs.Prelude.{◌≡◌, ℕ}
use Rattle.std.proofs.Common.{refl, ap, ◌∙◌}
use Rattle.rules.specs.Varint.{number_fault, reading}
use Rattle.rules.specs.declared.Number.{Number}
use Rattle.rules.specs.declared.Number.TheVariants.{Read, Ended, Beyond}

pub not_read : {A : Type 0} (refuse : ℕ → A) (onward : ℕ → ℕ → A) (n : Number) {m : Number} {code : ℕ}
    → ((v next : ℕ) → n ≡ Read v next → ⊥) → n ≡ m → code ≡ number_fault n → refuse code ≡ reading refuse m onward
unfolding reading
not_read refuse onward n not e code = ap refuse code ∙ go n not ∙ ap (λ m. reading refuse m onward) e
  where
    go : (n : Number) → ((v next : ℕ) → n ≡ Read v next → ⊥) → refuse (number_fault n) ≡ reading refuse n onward
    go (Read v next) not = absurd (not v next refl)
    go Ended not = refl
    go Beyond not = refl
