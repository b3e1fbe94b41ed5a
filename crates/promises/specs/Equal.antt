-- That two results allowed by a contract are equal: for every function, since each contract is an equation of this
-- shape.
use Rattle.std.specs.Prelude.{◌≡◌, List, ℕ}
use Rattle.rules.specs.Answer.{Outcome}
use Rattle.rules.specs.Answer.Outcome.{outcome}
use Rattle.rules.specs.Runs.{Handed}
use Rattle.rules.specs.Runs.Handed.{handed}
use Rattle.rules.specs.declared.Answer.{Answer}
use Rattle.rules.specs.declared.RunAnswer.{RunAnswer}

-- the answers are equal, and so is what the lent places hold afterwards
pub equal : {A : Type 0} {allowed : Outcome A} {r₁ r₂ : Answer} {after₁ after₂ : List A}
    → outcome r₁ after₁ ≡ allowed → outcome r₂ after₂ ≡ allowed → (r₁ ≡ r₂) × (after₁ ≡ after₂)
equal one other = (cc, cc)

-- the same of one run asked for by itself, whose answer is all that it gives
pub equal-run : {allowed r₁ r₂ : RunAnswer} → r₁ ≡ allowed → r₂ ≡ allowed → r₁ ≡ r₂
equal-run one other = cc

-- and of the form that hands back a part of the page: the parts are equal, and so are the numbers beside them
pub equal-handed : {allowed : Handed} {part₁ part₂ numbers₁ numbers₂ : List ℕ}
    → handed part₁ numbers₁ ≡ allowed → handed part₂ numbers₂ ≡ allowed → (part₁ ≡ part₂) × (numbers₁ ≡ numbers₂)
equal-handed one other = (cc, cc)
