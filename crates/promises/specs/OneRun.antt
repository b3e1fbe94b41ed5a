-- What one run asked for by itself promises: a refusal gives nothing; its numbers tell the part of the page that is handed
-- back, and that part lies on the page. Its code, and that a run is given exactly where the grammar has one and as it
-- has it: proofs/OneRun.
use Rattle.std.specs.Prelude.{◌≡◌, refl, List, [], ◌∷◌, ℕ, ◌+◌, ◌≤◌, take, drop}
use Rattle.std.proofs.Math.Path.{sym, ap}
use Rattle.std.proofs.Common.{◌∙◌}
use native.Mathlib.Omega.{arith}
use Rattle.std.proofs.Math.ListN.{length}
use Rattle.rules.specs.Runs.{one_at, one_run, one_answer, answer_of, Handed, handed_back}
use Rattle.rules.specs.Runs.Handed.{handed}
use Rattle.rules.specs.Runs.{Run}
use Rattle.rules.specs.Runs.Run.{Repeated, Packed, Refused}
use Rattle.rules.specs.declared.RunAnswer.{RunAnswer}
use Rattle.runs_read.specs.One.{one-packed}
use Rattle.promises.specs.NoFault.{◌and◌}
use Rattle.promises.specs.WhichFaults.{run_fault}

-- the part of the page that an answer names, and beside it the other numbers
abbrev pub named : List ℕ → RunAnswer → Handed
named page r =
    handed (take r.body_len (drop r.body_at page)) (r.code ∷ r.kind ∷ r.length ∷ r.value ∷ r.next ∷ [])

names : (page : List ℕ) (run : Run) → named page (answer_of run) ≡ handed_back page run
names page (Refused code) = refl
names page (Repeated count value next) = refl
names page (Packed groups start next) = refl

module _ (w n covered : ℕ) (page : List ℕ) (at : ℕ) {r : RunAnswer} (contract : r ≡ one_answer w n covered page at)
  where
    -- on a refusal the kind is repeated, length, value and next place are 0, and the part is empty
    pub refused : (r.code ≡ 0 → ⊥)
        → r.kind ≡ 0 and r.length ≡ 0 and r.value ≡ 0 and r.next ≡ 0 and r.body_len ≡ 0
    unfolding one_answer
    refused some = rw contract (go (one_at w n covered page at) (rw contract at some))
      where
        go : (run : Run) → (run_fault run ≡ 0 → ⊥)
            → let x = answer_of run in
            x.kind ≡ 0 and x.length ≡ 0 and x.value ≡ 0 and x.next ≡ 0 and x.body_len ≡ 0
        go (Refused code) some = (refl, (refl, (refl, (refl, refl))))
        go (Repeated count value next) some = absurd (some refl)
        go (Packed groups start next) some = absurd (some refl)

    -- an answer in numbers tells the same as the part handed back and the numbers beside it
    pub same-told : one_run w n covered page at ≡ named page r
    unfolding one_run one_answer
    same-told = sym (ap (named page) contract ∙ names page (one_at w n covered page at))

    -- the packed bytes are bytes of the page
    pub on_page : r.body_at + r.body_len ≤ length page
    unfolding one_answer
    on_page = rw contract (lies (one_at w n covered page at) refl)
      where
        lies : (run : Run) → one_at w n covered page at ≡ run
            → (answer_of run).body_at + (answer_of run).body_len ≤ length page
        lies (Refused code) e = omega arith
        lies (Repeated count value next) e = omega arith
        lies (Packed groups start next) e = let p = one-packed w n covered page at e in omega (arith, p)
