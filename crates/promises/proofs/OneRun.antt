-- What one run asked for by itself promises: its first fault is the code, never 6, and a run is given exactly where
-- the grammar has one and as it has it.
use Rattle.std.specs.Prelude.{◌≡◌, List, ◌↔◌, ℕ, ◌-◌, ◌≤◌, ◌<◌}
use Rattle.std.proofs.Math.Path.{sym, ap}
use Rattle.std.proofs.Common.{◌∙◌}
use Rattle.std.proofs.Math.ListN.{length}
use Rattle.rules.specs.Runs.{one_answer}
use Rattle.rules.specs.declared.RunAnswer.{RunAnswer}
use Rattle.runs_read.specs.One.{one-read}
use Rattle.promises.specs.NoFault.{◌and◌, limits-kept}
use Rattle.promises.specs.RunThere.{RunThere, Tells, run-told}
use Rattle.promises.specs.OneRunFaults.{one_fault, first-fault}
use Rattle.promises.proofs.OneRunFaults.{one-good, not_six}

module _ (w n covered : ℕ) (page : List ℕ) (at : ℕ) {r : RunAnswer} (contract : r ≡ one_answer w n covered page at)
  where
    -- the code is the first of the listed faults, and nothing else is refused
    pub code_is : r.code ≡ one_fault w n covered page at
    unfolding one_answer
    code_is = ap (λ (x : RunAnswer). x.code) contract ∙ first-fault w n covered page at

    -- never with 6
    pub never_six : r.code ≡ 6 → ⊥
    never_six six = not_six w n covered page at (sym code_is ∙ six)

    -- a run is given exactly where one stands by the grammar, with n not yet covered
    pub one-accepted : r.code ≡ 0
        ↔ (w ≤ 32 and n ≤ 16384) and at ≤ length page and covered < n and RunThere w (n - covered) page at
    one-accepted =
        let good = one-good w n covered page at in
        (λ e. good.0 (sym code_is ∙ e), λ g. code_is ∙ good.1 g)

    -- and it is that run
    pub one_told : r.code ≡ 0 → (s : RunThere w (n - covered) page at)
        → Tells page at r s.piece (length s.bytes)
    unfolding one_answer
    one_told ok s =
        let g = one-accepted.0 ok in
        rw (contract, one-read w n covered page at ((limits-kept w n).1 g.0) g.1.0 g.1.1.0)
        (run-told w (n - covered) page at s)
