-- What every column within its limits has: at most 16,384 entries, and each is one that a constant can be.
use Rattle.std.specs.Prelude.{◌≡◌, ℕ, ℤ, pos, ◌≤◌, ◌<◌}
use Rattle.std.proofs.Common.{arith}
use Rattle.rules.specs.Answer.{count_fault, limit_fault}
use Rattle.rules.specs.Signed.{Within}
use Rattle.answers.specs.Laws.{within_count, within-limits}

abbrev pub Bounded : ℕ → (ℕ → ℤ) → Type 0
Bounded n entry = (n ≤ 16384) × ((i : ℕ) → Within 64 (entry i))

pub unsigned_bounds : (w n : ℕ) (entry : ℕ → ℕ) → (w ≤ 32 → (i : ℕ) → entry i < 4294967296)
    → limit_fault w n ≡ 0
    → Bounded n (λ i. pos (entry i))
unsigned_bounds w n entry small e =
    let within = within-limits w n e in (within.1, λ i. omega (arith, small within.0 i))

pub signed_bounds : (n : ℕ) (entry : ℕ → ℤ) → (n ≤ 16384 → (i : ℕ) → Within 32 (entry i)) → count_fault n ≡ 0
    → Bounded n entry
signed_bounds n entry small e = let few = within_count n e in (few, λ i. omega (arith, small few i))

-- for the judgement of a page, which asks for them
pub ruleset limits = (within-limits, within_count)
