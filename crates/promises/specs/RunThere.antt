-- A run at a place of a page by the published grammar: it is read where it stands, and told as it
-- stands; that it is read there alone: proofs/RunThere.
use Rattle.std.specs.Prelude.{◌≡◌, refl, List, [], ◌++◌, ℕ, ◌+◌, ◌-◌, ◌*◌, length, take, drop}
use Rattle.std.proofs.Common.{sym, ap, ◌∙◌, arith}
use Rattle.rules.specs.Runs.{Stream, also, after, run_at, answer_of}
use Rattle.rules.specs.Grammar.Piece.{same, packed}
use Rattle.rules.specs.Runs.Stream.{good, bad}
use Rattle.rules.specs.Grammar.{Piece, entries, OneRun}
use Rattle.rules.specs.Runs.{Run}
use Rattle.rules.specs.Runs.Run.{Repeated, Packed, Refused}
use Rattle.rules.specs.declared.RunAnswer.{RunAnswer}
use Rattle.runs_read.specs.RunAfterRun.{never}
use Rattle.runs_read.specs.RunRead.{ran_packed}
use Rattle.runs_read.specs.Complete.{one-complete}

-- bytes of the page from the place on are a run, where `left` entries are not yet covered; any may follow
pub record RunThere (w left : ℕ) (page : List ℕ) (at : ℕ) : Type 0 where
  pub bytes : List ℕ
  pub behind : List ℕ
  pub piece : Piece
  pub is_run : OneRun w left bytes piece
  pub there : drop at page ≡ bytes ++ behind

-- 0 for a repeated run and 1 for a packed one; the repeated value, 0 for a packed run; the packed bytes, none of a
-- repeated run
abbrev pub kind_of : Piece → ℕ
kind_of (same size count value) = 0
kind_of (packed size groups body) = 1

abbrev pub value_of : Piece → ℕ
value_of (same size count value) = value
value_of (packed size groups body) = 0

abbrev pub body_of : Piece → List ℕ
body_of (same size count value) = []
body_of (packed size groups body) = body

-- the answer is that of a run of so many bytes
pub record Tells (page : List ℕ) (at : ℕ) (r : RunAnswer) (p : Piece) (size : ℕ) : Type 0 where
  pub accepts : r.code ≡ 0
  pub kind_is : r.kind ≡ kind_of p
  -- in entries, 8 a group, also past n
  pub length_is : r.length ≡ entries p
  pub value_is : r.value ≡ value_of p
  pub next_is : r.next ≡ at + size
  pub body_is : take r.body_len (drop r.body_at page) ≡ body_of p

module _ (w left : ℕ) (page : List ℕ) (at : ℕ) where
  -- a run that stands there is read, and told as it stands
  pub run-told : (s : RunThere w left page at)
      → Tells page at (answer_of (run_at w left page at)) s.piece (length s.bytes)
  run-told s = go (run_at w left page at) refl
    where
      -- whatever would be read on behind it
      found : {r : Run} → run_at w left page at ≡ r → (onward : ℕ → ℕ → Stream)
          → after w left page at onward r
          ≡ also s.piece (onward (left - entries s.piece) (at + length s.bytes))
      found e onward =
          ap (after w left page at onward) (sym e)
          ∙ one-complete w left page at s.behind onward s.is_run s.there

      go : (r : Run) → run_at w left page at ≡ r → Tells page at (answer_of r) s.piece (length s.bytes)
      go (Refused code) e = absurd (never (found e (λ l to. good [])))
      go (Repeated count value to) e =
          let is : same (to - at) count value ≡ s.piece = cc (found e (λ l to. good [])) in
          let ends : to ≡ at + length s.bytes = cc (found e (λ l to. bad to)) in
          rw (← is)
          (record
          { accepts = refl; kind_is = refl; length_is = refl; value_is = refl; next_is = ends; body_is = refl })
      go (Packed groups start to) e =
          let is : packed (to - at) groups (take (w * groups) (drop start page)) ≡ s.piece =
          cc (found e (λ l to. good [])) in
          let ends : to ≡ at + length s.bytes = cc (found e (λ l to. bad to)) in
          let size : to - start ≡ w * groups = omega (arith, ran_packed w left page at e) in
          rw (← is)
          (record {
            accepts = refl;
            kind_is = refl;
            length_is = refl;
            value_is = refl;
            next_is = ends;
            body_is = rw size;
          })
