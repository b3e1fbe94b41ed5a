-- The three conditions, function by function: what is promised of each C function, for all that it may be given.
-- `before` and `after` are what the lent places hold at entry and at exit, and r is the answer. Exported says that
-- the functions keep to it.
use Rattle.std.specs.Prelude.{◌≡◌, true, not, List, ◌↔◌, ℕ, ◌+◌, ◌-◌, ◌*◌, ◌%◌, ◌≤◌, ◌<◌, ltb, eqb, ℤ, pos, length}
use Rattle.rules.specs.Bits.{ceil, entry}
use Rattle.rules.specs.Bits.Order.{low_first}
use Rattle.rules.specs.Comparison.{holds}
use Rattle.rules.specs.Answer.{faulty, ◌then◌, count_fault, limit_fault, operator_fault, room_fault, large_fault}
use Rattle.rules.specs.Horizontal as Horizontal
use Rattle.rules.specs.Vertical as Vertical
use Rattle.rules.specs.Runs.{read, stream_fault}
use Rattle.rules.specs.RunWriter.{stream}
use Rattle.rules.specs.Grammar.{Piece, Cut}
use Rattle.rules.specs.Delta as Delta
use Rattle.rules.specs.DeltaWriter as DeltaWriter
use Rattle.rules.specs.Dictionary as Dictionary
use Rattle.rules.specs.Spans.{selected, spans, covered, misplaced}
use Rattle.rules.specs.declared.Answer.{Answer}
use Rattle.rules.specs.declared.RunAnswer.{RunAnswer}
use Rattle.words.specs.Joined.{Small}
use Rattle.promises.specs.NoFault.{◌and◌}
use Rattle.promises.specs.Scans.{Selects}
use Rattle.promises.specs.Writes.{Fills, Writes}
use Rattle.promises.specs.HorizontalFaults as HorizontalFaults
use Rattle.promises.specs.VerticalFaults as VerticalFaults
use Rattle.promises.specs.Runs.{Cuttable, entry_of}
use Rattle.promises.specs.DictionaryFaults as DictionaryFaults
use Rattle.promises.specs.DictionaryFaults.{Indexes, index_of}
use Rattle.promises.specs.RunThere.{RunThere, Tells}
use Rattle.promises.specs.OneRunFaults.{one_fault}
use Rattle.promises.specs.Pairs.{Ascends, Within}
use Rattle.promises.specs.Stretches.{Stretches}

-- what every answer keeps to, over the first fault, what is accepted and what that gives
pub record Keeps {A : Type 0} (fault : ℕ) (Good Gives : Type 0) (before after : List A) (r : Answer) : Type 0 where
  -- 1: what is wrong is refused with a number from the written list, in the written order
  pub code_is : r.code ≡ fault
  -- nothing else is refused
  pub accepted : r.code ≡ 0 ↔ Good
  -- a refusal reports 0 and writes no byte
  pub refused : (r.code ≡ 0 → ⊥) → (r.number ≡ 0) × (after ≡ before)
  -- 2 and 3: what an accepted call gives
  pub gives : r.code ≡ 0 → Gives
  -- no place is gained or lost
  pub same-room : length after ≡ length before

-- ---- bare horizontal pages

abbrev pub HorizontalScan : List ℕ → ℕ → ℕ → ℕ → ℤ → ℤ → List ℕ → List ℕ → Answer → Type 0
HorizontalScan page width n op a b before after r =
    Keeps
    (limit_fault width n then operator_fault op then room_fault (length before) (ceil n 8)
    then Horizontal.page_fault low_first page width n)
    ((width ≤ 32 and n ≤ 16384) and op ≤ 7 and ceil n 8 ≤ length before and HorizontalFaults.Exact page width n)
    (Selects n (λ i. holds op a b (pos (entry low_first page width i))) before after r.number)
    before after r

abbrev pub HorizontalUnpack : List ℕ → ℕ → ℕ → List ℕ → List ℕ → Answer → Type 0
HorizontalUnpack page width n before after r =
    Keeps
    (limit_fault width n then room_fault (length before) n then Horizontal.page_fault low_first page width n)
    ((width ≤ 32 and n ≤ 16384) and n ≤ length before and HorizontalFaults.Exact page width n)
    (Fills n (entry low_first page width) before after r.number)
    before after r

abbrev pub HorizontalPack : List ℕ → ℕ → List ℕ → List ℕ → Answer → Type 0
HorizontalPack entries width before after r =
    Keeps
    (limit_fault width (length entries) then large_fault width entries
    then room_fault (length before) (Horizontal.page_bytes width (length entries)))
    ((width ≤ 32 and length entries ≤ 16384) and Small width entries
    and Horizontal.page_bytes width (length entries) ≤ length before)
    (Writes (Horizontal.packed low_first width entries) before after r.number)
    before after r

-- ---- bit planes

abbrev pub VerticalScan : List ℕ → ℕ → ℕ → ℕ → ℤ → ℤ → List ℕ → List ℕ → Answer → Type 0
VerticalScan words width n op a b before after r =
    Keeps
    (limit_fault width n then operator_fault op then room_fault (length before) (ceil n 8)
    then Vertical.page_fault words width n)
    ((width ≤ 32 and n ≤ 16384) and op ≤ 7 and ceil n 8 ≤ length before and VerticalFaults.Exact words width n)
    (Selects n (λ i. holds op a b (pos (Vertical.entry words width i))) before after r.number)
    before after r

abbrev pub VerticalUnpack : List ℕ → ℕ → ℕ → List ℕ → List ℕ → Answer → Type 0
VerticalUnpack words width n before after r =
    Keeps
    (limit_fault width n then room_fault (length before) n then Vertical.page_fault words width n)
    ((width ≤ 32 and n ≤ 16384) and n ≤ length before and VerticalFaults.Exact words width n)
    (Fills n (Vertical.entry words width) before after r.number)
    before after r

abbrev pub VerticalPack : List ℕ → ℕ → List ℕ → List ℕ → Answer → Type 0
VerticalPack entries width before after r =
    Keeps
    (limit_fault width (length entries) then large_fault width entries
    then room_fault (length before) (Vertical.page_words width (length entries)))
    ((width ≤ 32 and length entries ≤ 16384) and Small width entries
    and Vertical.page_words width (length entries) ≤ length before)
    (Writes (Vertical.packed width entries) before after r.number)
    before after r

-- ---- run streams: the entries are those of the runs that the page is cut into by the grammar

abbrev pub RunsScan : List ℕ → ℕ → ℕ → ℕ → ℤ → ℤ → List ℕ → List ℕ → Answer → Type 0
RunsScan page width n op a b before after r =
    Keeps
    (limit_fault width n then operator_fault op then room_fault (length before) (ceil n 8)
    then stream_fault (read width n page))
    ((width ≤ 32 and n ≤ 16384) and op ≤ 7 and ceil n 8 ≤ length before and Cuttable width n page)
    ((ps : List Piece) → Cut width n page ps
    → Selects n (λ i. holds op a b (pos (entry_of width ps i))) before after r.number)
    before after r

abbrev pub RunsUnpack : List ℕ → ℕ → ℕ → List ℕ → List ℕ → Answer → Type 0
RunsUnpack page width n before after r =
    Keeps
    (limit_fault width n then room_fault (length before) n then stream_fault (read width n page))
    ((width ≤ 32 and n ≤ 16384) and n ≤ length before and Cuttable width n page)
    ((ps : List Piece) → Cut width n page ps → Fills n (entry_of width ps) before after r.number)
    before after r

abbrev pub RunsPack : List ℕ → ℕ → List ℕ → List ℕ → Answer → Type 0
RunsPack entries width before after r =
    Keeps
    (limit_fault width (length entries) then large_fault width entries
    then room_fault (length before) (length (stream width entries)))
    ((width ≤ 32 and length entries ≤ 16384) and Small width entries and length (stream width entries)
    ≤ length before)
    (Writes (stream width entries) before after r.number)
    before after r

-- one run asked for by itself, where `covered` entries stand before it
pub record RunsNext (page : List ℕ) (width n at covered : ℕ) (r : RunAnswer) : Type 0 where
  pub code_is : r.code ≡ one_fault width n covered page at
  pub accepted : r.code ≡ 0
      ↔ (width ≤ 32 and n ≤ 16384) and at ≤ length page and covered < n and RunThere width (n - covered) page at
  pub refused : (r.code ≡ 0 → ⊥)
      → r.kind ≡ 0 and r.length ≡ 0 and r.value ≡ 0 and r.next ≡ 0 and r.body_len ≡ 0
  pub never_six : r.code ≡ 6 → ⊥
  -- it is the run that stands there, and its packed bytes are bytes of the page
  pub told : r.code ≡ 0 → (s : RunThere width (n - covered) page at) → Tells page at r s.piece (length s.bytes)
  pub on_page : r.body_at + r.body_len ≤ length page

-- ---- delta pages, as they are read: no grammar of them stands apart from the reader yet

abbrev pub DeltaScan : List ℕ → ℕ → ℕ → ℤ → ℤ → List ℕ → List ℕ → Answer → Type 0
DeltaScan page n op a b before after r =
    Keeps
    (count_fault n then operator_fault op then room_fault (length before) (ceil n 8)
    then Delta.page_fault (Delta.read 32 n page))
    (n ≤ 16384 and op ≤ 7 and ceil n 8 ≤ length before and Delta.page_fault (Delta.read 32 n page) ≡ 0)
    (Selects n (λ i. holds op a b (Delta.page_entry 32 (Delta.read 32 n page) i)) before after r.number)
    before after r

abbrev pub DeltaUnpack : List ℕ → ℕ → List ℤ → List ℤ → Answer → Type 0
DeltaUnpack page n before after r =
    Keeps
    (count_fault n then room_fault (length before) n then Delta.page_fault (Delta.read 32 n page))
    (n ≤ 16384 and n ≤ length before and Delta.page_fault (Delta.read 32 n page) ≡ 0)
    (Fills n (Delta.page_entry 32 (Delta.read 32 n page)) before after r.number)
    before after r

-- every list fits, so that 17 never arises
abbrev pub DeltaPack : List ℤ → List ℕ → List ℕ → Answer → Type 0
DeltaPack entries before after r =
    Keeps
    (count_fault (length entries) then DeltaWriter.wide_fault 32 entries
    then room_fault (length before) (length (DeltaWriter.page 32 entries)))
    (length entries ≤ 16384 and Unit {0} and length (DeltaWriter.page 32 entries) ≤ length before)
    (Writes (DeltaWriter.page 32 entries) before after r.number)
    before after r

-- ---- dictionary columns: the values at the indexes that the page is cut into

abbrev pub DictionaryScan : List ℕ → List ℕ → ℕ → ℕ → ℤ → ℤ → List ℕ → List ℕ → Answer → Type 0
DictionaryScan dict page n op a b before after r =
    Keeps
    (count_fault n then operator_fault op then room_fault (length before) (ceil n 8)
    then Dictionary.column_fault dict n page)
    (n ≤ 16384 and op ≤ 7 and ceil n 8 ≤ length before and DictionaryFaults.Exact page dict n)
    ((p : Indexes page n)
    → Selects n (λ i. holds op a b (Dictionary.value dict (index_of p i))) before after r.number)
    before after r

abbrev pub DictionaryUnpack : List ℕ → List ℕ → ℕ → List ℤ → List ℤ → Answer → Type 0
DictionaryUnpack dict page n before after r =
    Keeps
    (count_fault n then room_fault (length before) n then Dictionary.column_fault dict n page)
    (n ≤ 16384 and n ≤ length before and DictionaryFaults.Exact page dict n)
    ((p : Indexes page n) → Fills n (λ i. Dictionary.value dict (index_of p i)) before after r.number)
    before after r

-- ---- spans: a bitmap's stretches of selected entries as a list of pairs, and the bitmap of such a list

-- each maximal stretch once, ascending; the number is the pairs written, two places each
abbrev pub SpansFromBitmap : List ℕ → ℕ → List ℕ → List ℕ → Answer → Type 0
SpansFromBitmap bits n before after r =
    Keeps
    (count_fault n then faulty (ltb (length bits) (ceil n 8)) 5 then room_fault (length before) (length (spans bits n)))
    (n ≤ 16384 and ceil n 8 ≤ length bits and length (spans bits n) ≤ length before)
    (Stretches (selected bits n) (spans bits n) and Writes (spans bits n) before after (2 * r.number))
    before after r

-- written as a scan's bitmap is, with the entries selected that lie in one of the stretches
abbrev pub SpansToBitmap : List ℕ → ℕ → List ℕ → List ℕ → Answer → Type 0
SpansToBitmap list n before after r =
    Keeps
    (count_fault n then faulty (not (eqb (length list % 2) 0)) 5 then room_fault (length before) (ceil n 8)
    then faulty (misplaced n 0 list) 18)
    (n ≤ 16384 and length list % 2 ≡ 0 and ceil n 8 ≤ length before and Ascends n list)
    (((i : ℕ) → covered list i ≡ true ↔ Within list i) and Selects n (covered list) before after r.number)
    before after r
