-- A stream read turn by turn.
use Rattle.std.specs.Prelude.{◌≡◌, refl, List, ℕ, zero, suc, ◌<◌, ltb, length}
use Rattle.std.proofs.Common.{arith}
use Rattle.rules.specs.Grammar.{Piece}
use Rattle.rules.specs.Runs.{at_end, after, read_at, run_at}
use Rattle.rules.specs.Runs.Stream.{good, bad}

pub turn : (w turns left : ℕ) (page : List ℕ) (at : ℕ) → 0 < left
    → read_at w (suc turns) left page at
    ≡ after w left page at (λ l next. read_at w turns l page next) (run_at w left page at)
turn w turns zero page at some = absurd (omega arith)
turn w turns (suc left) page at some = refl

pub end : (w turns : ℕ) (page : List ℕ) (at : ℕ) → read_at w turns 0 page at ≡ at_end (ltb at (length page))
end w zero page at = refl
end w (suc turns) page at = refl

-- a stream with a fault is not good
pub never : {code : ℕ} {ps : List Piece} → bad code ≡ good ps → ⊥
never e = let z : ◌≡◌ {A = ℕ} 0 1 = cc in omega arith
