-- One turn of the writer: what the run at a place takes, and the stream behind it.
use Rattle.std.specs.Prelude.{◌≡◌, List, [], ◌++◌, ℕ, ◌+◌, ◌≤◌, ◌<◌, length, drop}
use Rattle.std.proofs.Common.{sym, ap, ◌∙◌, arith, length-drop, drop_of_length-le, drop-drop}
use Rattle.rules.specs.Bits.{put}
use Rattle.rules.specs.RunWriter.{next_run, taken, run_bytes, stream}
use Rattle.rules.specs.declared.Next.{Next}
use Rattle.words.specs.Puts.{put-put}
use Rattle.runs_write.specs.Cuts.{taken-some, taken-within, stream-none, stream-turn}
use Rattle.runs_write.specs.Sizes.{run_size, length-run-bytes, turn-size}

-- the entries from place p on begin with this run
pub record BeginsWith (w : ℕ) (s : List ℕ) (p : ℕ) (next : Next) : Type 0 where
  pub some : 0 < taken next
  pub within : p + taken next ≤ length s + 7
  pub laid : stream w (drop p s) ≡ run_bytes w (drop p s) next ++ stream w (drop (p + taken next) s)
  pub sized : length (stream w (drop p s)) ≡ run_size w next + length (stream w (drop (p + taken next) s))
  pub size : length (run_bytes w (drop p s) next) ≡ run_size w next

pub begins_with : (w : ℕ) (s : List ℕ) (p : ℕ) {next : Next} → p < length s → next ≡ next_run (drop p s)
    → BeginsWith w s p next
begins_with w s p {next} h e =
    let left : 0 < length (drop p s) = rw length-drop (omega arith) in
    let turn : stream w (drop p s) ≡ run_bytes w (drop p s) next ++ stream w (drop (p + taken next) s) =
    rw (e, ← drop-drop) (stream-turn w (drop p s) left) in
    record {
      some = rw e (taken-some (drop p s) left);
      within = rw e (omega (arith, length-drop p s, taken-within (drop p s)));
      laid = turn;
      sized = turn-size w (drop p s) next _ turn;
      size = length-run-bytes w (drop p s) next;
    }

-- its bytes are stored, and the others are to come behind them
pub put-turn : {w : ℕ} {s : List ℕ} {p : ℕ} {next : Next} (page : List ℕ) (at : ℕ) → BeginsWith w s p next
    → at + length (stream w (drop p s)) ≤ length page
    → put (put page at (run_bytes w (drop p s) next)) (at + length (run_bytes w (drop p s) next))
    (stream w (drop (p + taken next) s)) ≡ put page at (stream w (drop p s))
put-turn {w} {s} {p} {next} page at run h =
    put-put page (run_bytes w (drop p s) next) (stream w (drop (p + taken next) s)) at
    (omega (arith, run.sized, run.size)) ∙ ap (put page at) (sym run.laid)

pub stream-past : (w : ℕ) (s : List ℕ) (p : ℕ) → length s ≤ p → stream w (drop p s) ≡ []
stream-past w s p h = rw (drop_of_length-le s h) (stream-none w)
