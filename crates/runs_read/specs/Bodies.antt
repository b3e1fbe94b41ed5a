-- The faults of a run's body, as one code.
use Rattle.std.specs.Prelude.{◌≡◌, refl, Bool, true, false, cond, ℕ}
use Rattle.std.proofs.Common.{ap, arith}
use Rattle.rules.specs.Runs.{Run}
use Rattle.rules.specs.Runs.Run.{Refused}

-- past n, cut short, and the value not small, in this order; of a packed run the last is never asked
abbrev pub body_fault : Bool → Bool → Bool → ℕ
body_fault past short small = cond past 11 (cond short 5 (cond small 0 8))

-- the run by the same tests
abbrev pub by_tests : Bool → Bool → Bool → Run → Run
by_tests past short small run = cond past (Refused 11) (cond short (Refused 5) (cond small run (Refused 8)))

module _ {code : ℕ} where
  pub faulty-body : (past short small : Bool) (run : Run) → code ≡ body_fault past short small → (code ≡ 0 → ⊥)
      → Refused code ≡ by_tests past short small run
  faulty-body true short small run e some = ap Refused e
  faulty-body false true small run e some = ap Refused e
  faulty-body false false true run e some = absurd (some e)
  faulty-body false false false run e some = ap Refused e

  pub good-body : (past short small : Bool) (run : Run) → code ≡ body_fault past short small → code ≡ 0
      → run ≡ by_tests past short small run
  good-body true short small run e none = absurd (omega arith)
  good-body false true small run e none = absurd (omega arith)
  good-body false false true run e none = refl
  good-body false false false run e none = absurd (omega arith)

  -- no test failed
  pub passed : (past short small : Bool) → code ≡ body_fault past short small → code ≡ 0
      → (past ≡ false) × (short ≡ false) × (small ≡ true)
  passed true short small e none = absurd (omega arith)
  passed false true small e none = absurd (omega arith)
  passed false false true e none = (refl, refl, refl)
  passed false false false e none = absurd (omega arith)
