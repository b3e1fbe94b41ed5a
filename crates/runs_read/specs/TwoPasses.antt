-- The two passes over a stream: it is judged, and then its runs write. The second gives, on a good page, what the
-- page's runs write.
use Rattle.std.specs.Prelude.{◌≡◌, List, [], ◌∷◌, ℕ, zero, suc, ◌+◌, ◌-◌, ◌*◌}
use Rattle.std.proofs.Math.Path.{refl}
use Rattle.std.proofs.Common.{◌∙◌, arith}
use Prim.{Unit, tt}
use Rattle.rules.specs.Runs.{Stream, run_at, also, at_end, after, read_at, read, stream_fault}
use Rattle.rules.specs.Runs.Stream.{good, bad}
use Rattle.rules.specs.Grammar.{Piece, entries, Cut}
use Rattle.rules.specs.Runs.{Run}
use Rattle.rules.specs.Runs.Run.{Repeated, Packed, Refused}
use Rattle.runs_read.specs.Exact.{exact}
use Rattle.runs_read.specs.Walks.{Work, Comes, walk, steps, on_run, walk-good}

-- ---- the first: only the code

abbrev pub judge : Work (Unit {0}) ℕ
judge = record { step = λ p kept. kept; fault = λ code kept. code; end = λ over kept. stream_fault (at_end over) }

fault-also : (p : Piece) (s : Stream) → stream_fault (also p s) ≡ stream_fault s
fault-also p (good ps) = refl
fault-also p (bad code) = refl

judged : (w turns left : ℕ) (page : List ℕ) (at : ℕ)
    → stream_fault (read_at w turns left page at) ≡ walk judge w turns left page at tt
judged w zero zero page at = refl
judged w (suc turns) zero page at = refl
judged w zero (suc left) page at = refl
judged w (suc turns) (suc left) page at = go (λ l next. judged w turns l page next) (run_at w (suc left) page at)
  where
    go : ((l next : ℕ) → stream_fault (read_at w turns l page next) ≡ walk judge w turns l page next tt) → (r : Run)
        → stream_fault (after w (suc left) page at (λ l next. read_at w turns l page next) r)
        ≡ on_run judge w (suc left) page at tt (λ l next k. walk judge w turns l page next k) r
    go rest (Refused code) = refl
    go rest (Repeated count value next) =
        fault-also _ (read_at w turns (suc left - count) page next) ∙ rest (suc left - count) next
    go rest (Packed groups start next) =
        fault-also _ (read_at w turns (suc left - 8 * groups) page next) ∙ rest (suc left - 8 * groups) next

-- what the loop that judges begins with
pub judge-comes : (w n : ℕ) (page : List ℕ) → Comes judge (stream_fault (read w n page)) w n page 0 tt
unfolding read
judge-comes w n page = record { turns = n; enough = omega arith; rest = judged w n n page 0 }

-- ---- the second, over any way in which a run writes: `put i p out` is what the run p leaves, which begins at
-- entry i

module _ {O : Type 0} (put : ℕ → Piece → O → O) where
  -- a fault ends it quietly, so that it asks for no good page
  abbrev pub writing : Work (ℕ × O) O
  writing =
      record {
        step = λ p kept. (kept.0 + entries p, put kept.0 p kept.1);
        fault = λ code kept. kept.1;
        end = λ over
            kept. kept.1;
      }

  unfoldable pub pass : ℕ → ℕ → List ℕ → O → O
  pass w n page out = walk writing w n n page 0 (0, out)

  -- what the loop that writes begins with
  pub pass-comes : (w n : ℕ) (page : List ℕ) (out : O) → Comes writing (pass w n page out) w n page 0 (0, out)
  unfolding pass
  pass-comes w n page out = record { turns = n; enough = omega arith; rest = refl }

  -- what runs write, one after the other, from entry i on
  abbrev pub put_all : ℕ → List Piece → O → O
  put_all i [] out = out
  put_all i (p ∷ ps) out = put_all (i + entries p) ps (put i p out)

  steps-put : (i : ℕ) (ps : List Piece) (out : O) → (steps writing ps (i, out)).1 ≡ put_all i ps out
  steps-put i [] out = refl
  steps-put i (p ∷ ps) out = steps-put (i + entries p) ps (put i p out)

  pub pass-cut : (w n : ℕ) (page : List ℕ) (ps : List Piece) (out : O) → Cut w n page ps
      → pass w n page out ≡ put_all 0 ps out
  unfolding read pass
  pass-cut w n page ps out cut =
      walk-good writing w n n page 0 (0, out) ps ((exact w n page ps).1 cut) ∙ steps-put 0 ps out
