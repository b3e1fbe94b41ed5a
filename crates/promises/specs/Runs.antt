-- Run streams are a layout, and their three contracts are its. The third condition: a stream is accepted exactly if
-- its bytes can be cut into runs by the published grammar, none can be cut in two ways, and what is given is that
-- of the entries so cut. What the writer writes is read back.
use Rattle.std.specs.Prelude.{◌≡◌, refl, List, ◌↔◌, ℕ, ◌≤◌, ℤ, pos, length, take, get_or}
use Rattle.std.proofs.Math.Path.{subst}
use Rattle.rules.specs.Bits.{ceil}
use Rattle.rules.specs.Comparison.{holds}
use Rattle.rules.specs.Answer.{◌then◌, operator_fault, room_fault, scanned}
use Rattle.rules.specs.Answer.Outcome.{outcome}
use Rattle.rules.specs.Runs as Runs
use Rattle.rules.specs.Runs.{Stream, read, stream_fault, stream_entry}
use Rattle.rules.specs.RunWriter as RunWriter
use Rattle.rules.specs.RunWriter.{stream}
use Rattle.rules.specs.Grammar.{Piece, cut_entries, Cut}
use Rattle.rules.specs.declared.Answer.{Answer}
use Rattle.runs_read.specs.Exact as Exact
use Rattle.runs_write.specs.ReadBack.{stream-back, entries-back}
use Rattle.promises.specs.NoFault.{◌and◌}
use Rattle.promises.specs.Layouts as Layouts
use Rattle.promises.specs.Layouts.{Layout}
use Rattle.promises.specs.Writers.{Writer, packed-scans}
use Rattle.promises.specs.Unsigned.{unsigned, unsigned-writer}
use Rattle.promises.specs.Scans.{Selects}
use Rattle.promises.specs.Writes.{Fills}

-- the page can be cut into runs of width w that cover n entries
abbrev pub Cuttable : ℕ → ℕ → List ℕ → Type 0
Cuttable w n page = (ps : List Piece) × Cut w n page ps

-- entry i of a page cut into runs
abbrev pub entry_of : ℕ → List Piece → ℕ → ℕ
entry_of w ps i = get_or (cut_entries w ps) i 0

abbrev pub runs : Layout ℕ ℕ
runs =
    unsigned (λ page w n. stream_fault (read w n page)) (λ page w n. Cuttable w n page)
    (λ page w n. Exact.accepted w n page) (λ page w n. stream_entry w (read w n page))

abbrev pub writer : Writer runs
writer =
    unsigned-writer _ _ (λ page w n. Exact.accepted w n page) (λ page w n. stream_entry w (read w n page))
    stream (λ w xs. length (stream w xs)) (λ w xs. refl)
    (λ w xs few small. let back = stream-back w xs few small in (back.runs, back.cut))
    entries-back

-- ---- the third condition

-- no page can be cut in two ways
pub one-cut : (w n : ℕ) (page : List ℕ) (ps qs : List Piece) → Cut w n page ps → Cut w n page qs → ps ≡ qs
one-cut = Exact.unique

module _ (page : List ℕ) (w n op : ℕ) (a b : ℤ) (before : List ℕ) {after : List ℕ} {r : Answer}
    (contract : outcome r after ≡ Runs.scan page w n op a b before) where
  -- a scanner that refuses everything breaks its contract, and so does one that takes a page which the grammar does
  -- not
  pub scan-accepted : r.code ≡ 0
      ↔ (w ≤ 32 and n ≤ 16384) and op ≤ 7 and ceil n 8 ≤ length before and Cuttable w n page
  unfolding Runs.scan
  scan-accepted = Layouts.scan-accepted runs page w n op a b before contract

  -- the bitmap is that of the entries so cut
  pub scan-cut : r.code ≡ 0 → (ps : List Piece) → Cut w n page ps
      → Selects n (λ i. holds op a b (pos (entry_of w ps i))) before after r.number
  unfolding Runs.scan
  scan-cut ok ps cut =
      subst (λ (s : Stream). Selects n (λ i. holds op a b (pos (stream_entry w s i))) before after r.number)
      ((Exact.exact w n page ps).1 cut)
      ((Layouts.scan runs page w n op a b before contract).accepts ok)

module _ (page : List ℕ) (w n : ℕ) (before : List ℕ) {after : List ℕ} {r : Answer}
    (contract : outcome r after ≡ Runs.unpack page w n before) where
  pub unpack-accepted : r.code ≡ 0 ↔ (w ≤ 32 and n ≤ 16384) and n ≤ length before and Cuttable w n page
  unfolding Runs.unpack
  unpack-accepted = Layouts.unpack-accepted runs page w n before contract

  pub unpack-cut : r.code ≡ 0 → (ps : List Piece) → Cut w n page ps → Fills n (entry_of w ps) before after r.number
  unfolding Runs.unpack
  unpack-cut ok ps cut =
      subst (λ (s : Stream). Fills n (stream_entry w s) before after r.number) ((Exact.exact w n page ps).1 cut)
      ((Layouts.unpack runs page w n before contract).accepts ok)

-- ---- what the writer wrote is scanned

module _ (entries : List ℕ) (w : ℕ) (before : List ℕ) {page : List ℕ} {r : Answer}
    (contract : outcome r page ≡ RunWriter.pack entries w before) (ok : r.code ≡ 0) where
  -- a scan of the bytes written has the bitmap of the entries
  pub written-scans : (op : ℕ) (a b : ℤ) (bitmap : List ℕ)
      → Runs.scan (take r.number page) w (length entries) op a b bitmap
      ≡ scanned (operator_fault op then room_fault (length bitmap) (ceil (length entries) 8)) (length entries)
      (λ i. holds op a b (pos (get_or entries i 0))) bitmap
  unfolding Runs.scan RunWriter.pack
  written-scans op a b bitmap = packed-scans runs writer entries w before contract ok tt op a b 0 bitmap
