-- A field of a stream that was read, and one that was refused.
use Rattle.std.specs.Prelude.{◌≡◌, [], ◌∷◌, ℕ}
use Rattle.std.proofs.Math.Path.{refl, ap}
use Rattle.std.proofs.Common.{sym, ◌∙◌, ⊎_elim, arith}
use types.Run.{OneOf}
use denote.Enum.Declared.{tag_of}
use Rattle.rules.specs.Varint.{number_fault, reading}
use Rattle.rules.specs.declared.Number.{Number}
use Rattle.rules.specs.declared.Number.TheVariants.{Read, Ended, Beyond}
use Rattle.rules.specs.contracts.Number.{the_type}

module _ {A : Type 0} (refuse : ℕ → A) (onward : ℕ → ℕ → A) where
  -- what both refusals give, and what goes on from every number that may stand there
  pub by_field : (P : A → Type 0) (n : Number) → P (refuse 5) → P (refuse 9)
      → ((v next : ℕ) → n ≡ Read v next → P (onward v next)) → P (reading refuse n onward)
  unfolding reading
  by_field P (Read v next) ended beyond read = read v next refl
  by_field P Ended ended beyond read = ended
  by_field P Beyond ended beyond read = beyond

  -- the number was read, and what goes on from it is known
  pub by_read : {n : Number} {v next : ℕ} {r : A} → n ≡ Read v next → r ≡ onward v next → r ≡ reading refuse n onward
  unfolding reading
  by_read e on = on ∙ ap (λ m. reading refuse m onward) (sym e)

  -- none was read: the match took neither value nor place
  pub by_refusal : (n : Number) {m : Number} {code : ℕ} → OneOf (1 ∷ 2 ∷ []) (tag_of the_type n) → n ≡ m
      → code ≡ number_fault n → refuse code ≡ reading refuse m onward
  unfolding reading
  by_refusal n tag e code = ap refuse code ∙ go n tag ∙ ap (λ m. reading refuse m onward) e
    where
      go : (n : Number) → OneOf (1 ∷ 2 ∷ []) (tag_of the_type n) → refuse (number_fault n) ≡ reading refuse n onward
      go (Read v next) tag = absurd (⊎_elim (λ e. omega arith) (λ e. omega arith) tag)
      go Ended tag = refl
      go Beyond tag = refl
