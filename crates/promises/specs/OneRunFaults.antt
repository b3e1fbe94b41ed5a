-- The faults of one run asked for by itself: their order, and which they are. When there is none, in plain conditions, and
-- that 6 is not among them: proofs/OneRunFaults.
use Rattle.std.specs.Prelude.{◌≡◌, Bool, cond, List, ℕ, ◌-◌, leb, ltb, length}
use Rattle.std.proofs.Math.Path.{refl}
use Rattle.std.proofs.Math.Bool.{true, false}
use Rattle.rules.specs.Answer.{faulty, ◌then◌, limit_fault}
use Rattle.rules.specs.Varint.{number_at}
use Rattle.rules.specs.Runs.{run_at, one_at}
use Rattle.rules.specs.Runs.Run.{Refused}
use Rattle.promises.specs.WhichFaults.{run_fault, a_fault, in_order, limits, run}

-- 1, 2, then 5 for a place past the page's end, then 11 if n or more are covered, then the first fault of the run
abbrev pub one_fault : ℕ → ℕ → ℕ → List ℕ → ℕ → ℕ
one_fault w n covered page at =
    limit_fault w n then faulty (ltb (length page) at) 5 then faulty (leb n covered) 11
    then run_fault (run_at w (n - covered) page at)

module _ (w n covered : ℕ) (page : List ℕ) (at : ℕ) where
  pub first-fault : run_fault (one_at w n covered page at) ≡ one_fault w n covered page at
  unfolding one_at limit_fault ◌then◌
  first-fault = go (ltb 32 w) (ltb 16384 n) (ltb (length page) at) (leb n covered)
    where
      go : (wide many past all : Bool)
          → run_fault
          (cond wide (Refused 1)
          (cond many (Refused 2)
          (cond past (Refused 5) (cond all (Refused 11) (run_at w (n - covered) page at)))))
          ≡ ((faulty wide 1 then faulty many 2) then faulty past 5 then faulty all 11
          then run_fault (run_at w (n - covered) page at))
      go true many past all = refl
      go false true past all = refl
      go false false true all = refl
      go false false false true = refl
      go false false false false = refl

-- ---- which they are

-- 1, 2, 5, 11, and those of a run
pub one_code : (Named : ℕ → Type 0) → Named 0 → Named 1 → Named 2 → Named 5 → Named 8 → Named 9 → Named 10 → Named 11
    → (w n covered : ℕ) (page : List ℕ) (at : ℕ) → Named (one_fault w n covered page at)
one_code Named none one two five eight nine ten eleven w n covered page at =
    in_order Named none (limits Named none one two w n)
    (in_order Named none (a_fault Named none (ltb (length page) at) five)
    (in_order Named none (a_fault Named none (leb n covered) eleven)
    (run Named none five eight nine ten eleven w (n - covered) page (number_at 32 page at))))
