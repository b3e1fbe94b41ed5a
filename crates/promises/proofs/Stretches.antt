-- A bitmap's spans are the list of all its maximal stretches.
use Rattle.std.specs.Prelude.{List}
use Rattle.std.proofs.Common.{arith}
use Prim.Native.Nat.{ℕ, ◌≤◌, ◌<◌}
use Rattle.rules.specs.Spans.{selected, spans}
use Rattle.spans_list.specs.Turns.{past_n, spans-even}
use Rattle.promises.proofs.Pairs.{placed-exact}
use Rattle.promises.specs.Listed.{never}
use Rattle.promises.specs.Stretches.{Stretch, Stretches, listed-stretch, stretch-listed, spans-listed, spans-placed}

module _ (bits : List ℕ) (n : ℕ) where
  pub spans_stretches : Stretches (selected bits n) (spans bits n)
  spans_stretches =
      record {
        paired = spans-even bits n;
        each_is = listed-stretch (selected bits n) n (spans-listed bits n) (λ i e. absurd (omega arith));
        every =
            λ first last s. stretch-listed (selected bits n) n (spans-listed bits n) first last (omega arith) (low last s) s;
        ascending = ((placed-exact n (spans bits n)).0 (spans-placed bits n)).gap;
      }
    where
      low : {first : ℕ} (last : ℕ) → Stretch (selected bits n) first last → last < n
      low last s =
          let not-past : n ≤ last → ⊥ =
          λ past. never (selected bits n) last (s.all_selected last s.ordered (omega arith))
          (past_n bits n last past) in
          omega (arith, not-past)
