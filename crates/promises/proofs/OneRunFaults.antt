-- When one run asked for by itself has no fault, in plain conditions, and that 6 is not among its faults.
use Rattle.std.specs.Prelude.{◌≡◌, List, ◌↔◌, ℕ, ◌-◌, ◌≤◌, ◌<◌, leb, length}
use Rattle.std.proofs.Math.Logic.Iff
use Rattle.std.proofs.Common.{arith, leb-false}
use Rattle.std.proofs.lemmas.Bool.{lt-leb}
use Rattle.promises.specs.NoFault.{◌and◌, neither, no_fault, not-below, limits-kept}
use Rattle.promises.specs.RunThere.{RunThere}
use Rattle.promises.proofs.RunThere.{run-exact}
use Rattle.promises.specs.OneRunFaults.{one_fault, one_code}

module _ (w n covered : ℕ) (page : List ℕ) (at : ℕ) where
  pub one-good : one_fault w n covered page at ≡ 0
      ↔ (w ≤ 32 and n ≤ 16384) and at ≤ length page and covered < n and RunThere w (n - covered) page at
  one-good =
      neither _ _ (limits-kept w n)
      (neither _ _ (not-below (length page) at 5 (λ e. omega arith))
      (neither _ _
      (Iff.trans (no_fault (leb n covered) 11 (λ e. omega arith)) (leb-false n covered, lt-leb n covered))
      (run-exact w (n - covered) page at)))

pub not_six : (w n covered : ℕ) (page : List ℕ) (at : ℕ) → one_fault w n covered page at ≡ 6 → ⊥
not_six =
    one_code (λ code. code ≡ 6 → ⊥) (λ e. omega arith) (λ e. omega arith) (λ e. omega arith) (λ e. omega arith)
    (λ e. omega arith) (λ e. omega arith) (λ e. omega arith) (λ e. omega arith)
