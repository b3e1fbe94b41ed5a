-- Delta pages are a layout of signed entries of W bits with a writer, and their three contracts are its. What the
-- writer writes is read back.
use Rattle.std.specs.Prelude.{◌≡◌, refl, List, ◌↔◌, ℕ, ◌<◌, ◌≤◌, ℤ, pos, length, take, get_or}
use Rattle.std.proofs.Math.Logic.Iff
use Rattle.std.proofs.Common.{arith}
use Rattle.rules.specs.Bits.{ceil}
use Rattle.rules.specs.Comparison.{holds}
use Rattle.rules.specs.Answer.{◌then◌, operator_fault, room_fault, scanned}
use Rattle.rules.specs.Answer.Outcome.{outcome}
use Rattle.rules.specs.Delta as Delta
use Rattle.rules.specs.DeltaWriter as DeltaWriter
use Rattle.rules.specs.declared.Answer.{Answer}
use Rattle.delta_read.specs.WidthBytes.{widths-there, narrow, widths_fine}
use Rattle.delta_write.specs.Deltas.{AllWithin, no_wide_fault}
use Rattle.delta_write.specs.ReadBack.{fault-back, entries-back}
use Rattle.promises.specs.Layouts.{Layout}
use Rattle.promises.specs.Writers.{Writer, packed-scans}
use Rattle.promises.specs.Signed.{signed}

-- a page is good where a reader finds no fault: a grammar of delta pages, apart from the reader, is a later request
abbrev pub delta : ℕ → Layout (Unit {0}) ℤ
delta W =
    signed (λ page k n. Delta.page_fault (Delta.read W n page))
    (λ page k n. Delta.page_fault (Delta.read W n page) ≡ 0) (λ page k n. Iff.rfl)
    (λ page k n. Delta.page_entry W (Delta.read W n page))

-- every list fits: 17 never arises. Entries are read back where they are signed numbers of W bits, as those lent are
abbrev pub writer : (W : ℕ) → 0 < W → Writer (delta W)
writer W some =
    record {
      unfit = λ k xs. DeltaWriter.wide_fault W xs;
      Fit = λ k xs. Unit {0};
      fit = λ k xs. (λ e. tt, λ e. no_wide_fault W some xs);
      packed = λ k xs. DeltaWriter.page W xs;
      places = λ k xs. length (DeltaWriter.page W xs);
      length-packed = λ k xs. refl;
      Held = AllWithin W;
      packed-exact = λ k xs few fit held. fault-back W some xs few held;
      packed-entries = λ k xs few fit held. entries-back W some xs few held;
    }

-- ---- the width bytes of a block, in plain conditions

-- no fault just where all are there and those of needed miniblocks are at most W: the others may be any number
pub widths-exact : (W all need : ℕ) (s : List ℕ) → need ≤ all
    → Delta.width_fault W all need s ≡ 0 ↔ ((all ≤ length s) × ((k : ℕ) → k < need → get_or s k 0 ≤ W))
widths-exact W all need s few = (
  λ none. (widths-there W all need s none, λ k l. narrow W all need s k none few (omega arith)),
  λ good. widths_fine W all need s good.0 (λ k l. good.1 k (omega arith)),
)

-- ---- what the writer wrote is scanned

module _ (W : ℕ) (some : 0 < W) (entries : List ℤ) (before : List ℕ) {page : List ℕ} {r : Answer}
    (contract : outcome r page ≡ DeltaWriter.pack W entries before) (ok : r.code ≡ 0) (held : AllWithin W entries)
  where
    -- a scan of the bytes written has the bitmap of the entries
    pub written-scans : (op : ℕ) (a b : ℤ) (bitmap : List ℕ)
        → Delta.scan W (take r.number page) (length entries) op a b bitmap
        ≡ scanned (operator_fault op then room_fault (length bitmap) (ceil (length entries) 8)) (length entries)
        (λ i. holds op a b (get_or entries i (pos 0))) bitmap
    unfolding Delta.scan DeltaWriter.pack
    written-scans op a b bitmap =
        packed-scans (delta W) (writer W some) entries tt before contract ok held op a b (pos 0) bitmap
