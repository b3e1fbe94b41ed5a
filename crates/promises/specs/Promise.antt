-- What is promised of every answer, of any layout and operation: what its code is, what a refusal leaves, and what
-- an acceptance gives.
use Rattle.std.specs.Prelude.{◌≡◌, List, ◌↔◌, ℕ, zero, suc}
use Rattle.std.proofs.Common.{sym, ap, ◌∙◌, arith}
use Rattle.rules.specs.Bits.{put}
use Rattle.rules.specs.Answer.{accepted, refusal, answered}
use Rattle.rules.specs.Answer.Outcome.{outcome}
use Rattle.rules.specs.declared.Answer.{Answer}

-- a call that was lent `before` gives the answer r and leaves `after`; `fault` is the first fault in the listed
-- order, 0 where there is none
pub record Promise {A : Type 0} (fault : ℕ) (before after : List A) (r : Answer) (Gives : Type 0) : Type 0 where
  -- a code is given exactly where its row and this order say, and nothing else is refused
  pub code_is : r.code ≡ fault
  -- every code from 1 up gives number 0 and changes nothing lent
  pub refused : (r.code ≡ 0 → ⊥) → (r.number ≡ 0) × (after ≡ before)
  -- code 0 is acceptance
  pub accepts : r.code ≡ 0 → Gives

-- every contract gives it: what an acceptance gives follows from the number and the places written
pub promise : {A : Type 0} (fault n : ℕ) (wrote before : List A) {after : List A} {r : Answer} {Gives : Type 0}
    → (r.number ≡ n → after ≡ put before 0 wrote → Gives)
    → outcome r after ≡ answered fault n wrote before
    → Promise fault before after r Gives
unfolding answered
promise zero n wrote before {after} {r} gives contract =
    let answer : r ≡ accepted n = cc in
    record {
      code_is = ap (λ (x : Answer). x.code) answer;
      refused = λ some. absurd (some (ap (λ (x : Answer). x.code) answer));
      accepts = λ none. gives (ap (λ (x : Answer). x.number) answer) (cc);
    }
promise (suc fault) n wrote before {after} {r} gives contract =
    let answer : r ≡ refusal (suc fault) = cc in
    let code : r.code ≡ suc fault = ap (λ (x : Answer). x.code) answer in
    record {
      code_is = code;
      refused = λ some. (ap (λ (x : Answer). x.number) answer, cc);
      accepts = λ none. absurd (omega arith);
    }

-- a call is accepted exactly where no listed fault is there
pub accepted_where : {A : Type 0} {fault : ℕ} {before after : List A} {r : Answer} {Gives P : Type 0}
    → Promise fault before after r Gives → (fault ≡ 0 ↔ P) → r.code ≡ 0 ↔ P
accepted_where p none = (λ e. none.0 (sym p.code_is ∙ e), λ good. p.code_is ∙ none.1 good)
