-- What a page that is accepted holds is enough: no entry that is asked for lies behind its end, so that the number
-- which `get_or` gives there is never an entry. Dictionary columns: proofs/Counts.
use Rattle.std.specs.Prelude.{◌≡◌, refl, List, ℕ, zero, suc, ◌+◌, ◌-◌, ◌/◌, ◌≤◌, ℤ, length}
use Rattle.std.proofs.Common.{sym, ap, arith, length-append}
use Rattle.rules.specs.Signed.{zigzag}
use Rattle.rules.specs.Grammar.{Piece, cut_entries, Cut}
use Rattle.rules.specs.Delta.{head_at, needed, block_deltas, after, block_at, blocks_at, read, page_fault}
use Rattle.rules.specs.Delta.Deltas.{good}
use Rattle.rules.specs.Delta.Page.{holding}
use Rattle.rules.specs.Delta.{Head}
use Rattle.rules.specs.Delta.Head.{Opened, Unopened}
use Rattle.rules.specs.Delta.{Block}
use Rattle.rules.specs.Delta.Block.{Laid, Unlaid}
use Rattle.runs_read.specs.Entries.{covered}
use Rattle.delta_read.specs.Shapes.{Shape, shape}
use Rattle.delta_read.specs.Heads.{head-shaped}
use Rattle.delta_read.specs.Needed.{covers}
use Rattle.delta_read.specs.BlockByBlock.{good-rest, never}
use Rattle.delta_read.specs.DeltasFault.{good-head, good-page}
use Rattle.delta_decode.specs.MiniblockDeltas.{length-block}
use Rattle.promises.specs.DictionaryFaults.{Indexes}
use Rattle.promises.specs.Exported as Exported
use Rattle.promises.specs.Calls.{EveryRunsScan, EveryRunsUnpack, EveryDeltaScan, EveryDeltaUnpack}

-- ---- run streams

-- runs that a page is cut into, with n entries or more
pub record Covered (w n : ℕ) (page : List ℕ) : Type 0 where
  pub runs : List Piece
  pub cut : Cut w n page runs
  pub enough : n ≤ length (cut_entries w runs)

-- however a page is cut, which is in one way only, n entries are there
pub cut-covers : {w n : ℕ} {page : List ℕ} {ps : List Piece} → Cut w n page ps → n ≤ length (cut_entries w ps)
cut-covers cut = (covered cut).0

covering : {w n : ℕ} {page : List ℕ} (ps : List Piece) → Cut w n page ps → Covered w n page
covering ps cut = record { runs = ps; cut = cut; enough = cut-covers cut }

pub runs-scan : EveryRunsScan (λ κs a r e. r.code ≡ 0 → Covered a.1.0 a.1.1.0 a.0.now)
runs-scan κs a r e contract ok =
    let good = (Exported.runs-scan κs a r e contract).accepted.0 ok in
    covering good.1.1.1.0 good.1.1.1.1

pub runs-unpack : EveryRunsUnpack (λ κs a r e. r.code ≡ 0 → Covered a.1.0 a.1.1.0 a.0.now)
runs-unpack κs a r e contract ok =
    let good = (Exported.runs-unpack κs a r e contract).accepted.0 ok in
    covering good.1.1.0 good.1.1.1

-- ---- delta pages

module _ (W size minis : ℕ) (page : List ℕ) (s : Shape size minis) where
  blocks-hold : (turns left at : ℕ) (ds : List ℤ) → blocks_at W size minis turns left page at ≡ good ds
      → left ≤ length ds
  blocks-hold zero zero at ds e = omega arith
  blocks-hold zero (suc left) at ds e = absurd (never (sym e))
  blocks-hold (suc turns) zero at ds e = omega arith
  blocks-hold (suc turns) (suc left) at ds e =
      go (λ l next es. blocks-hold turns l next es)
      (block_at W minis (needed minis (size / minis) (suc left)) (size / minis) page at) e
    where
      go : ((l next : ℕ) (es : List ℤ) → blocks_at W size minis turns l page next ≡ good es → l ≤ length es)
          → (b : Block)
          → after size minis (suc left) page (λ l next. blocks_at W size minis turns l page next) b ≡ good ds
          → suc left ≤ length ds
      go rest (Unlaid code) e = absurd (never (sym e))
      go rest (Laid h widths next) e =
          let m : ℕ = size / minis in
          let need : ℕ = needed minis m (suc left) in
          let own : List ℤ = block_deltas need m (zigzag h) page widths (widths + minis) in
          let r = good-rest ds own (blocks_at W size minis turns (suc left - size) page next) (sym e) in
          omega (
            arith,
            ap length r.whole,
            length-append own r.rest,
            length-block m (zigzag h) page need widths (widths + minis),
            rest (suc left - size) next r.rest r.follows,
            (covers size minis m (suc left) (omega (arith, s.long)) s.whole).same,
          )

-- what a page holds that has no fault: its first value, and n - 1 deltas or more
pub record Held (W n : ℕ) (page : List ℕ) : Type 0 where
  pub first : ℤ
  pub deltas : List ℤ
  pub page_is : read W n page ≡ holding first deltas
  pub enough : n ≤ suc (length deltas)

pub page-holds : (W n : ℕ) (page : List ℕ) → page_fault (read W n page) ≡ 0 → Held W n page
page-holds W n page fine = go (head_at W n page) refl
  where
    go : (h : Head) → head_at W n page ≡ h → Held W n page
    go (Unopened code) e = absurd (good-head W n page fine e)
    go (Opened size minis first at) e =
        let g = good-page W n page fine e in
        let s : Shape size minis = shape size minis (head-shaped W n page e) in
        record {
          first = zigzag first;
          deltas = g.deltas;
          page_is = g.page_is;
          enough = omega (arith, blocks-hold W size minis page s (n - 1) (n - 1) at g.deltas g.blocks);
        }

-- so of whatever it is read as holding
pub holding-enough : (W n : ℕ) (page : List ℕ) (first : ℤ) (ds : List ℤ) → read W n page ≡ holding first ds
    → n ≤ suc (length ds)
holding-enough W n page first ds e =
    let h = page-holds W n page (ap page_fault e) in
    let same : h.deltas ≡ ds = cc h.page_is in
    rw same at h.enough

pub delta-scan : EveryDeltaScan (λ κs a r e. r.code ≡ 0 → Held 32 a.1.0 a.0.now)
delta-scan κs a r e contract ok =
    page-holds 32 a.1.0 a.0.now ((Exported.delta-scan κs a r e contract).accepted.0 ok).1.1.1

pub delta-unpack : EveryDeltaUnpack (λ κs a r e. r.code ≡ 0 → Held 32 a.1.0 a.0.now)
delta-unpack κs a r e contract ok =
    page-holds 32 a.1.0 a.0.now ((Exported.delta-unpack κs a r e contract).accepted.0 ok).1.1

-- ---- dictionary columns

-- a width and runs that an index page is cut into, with n indexes or more
pub record Indexed (n : ℕ) (page : List ℕ) : Type 0 where
  pub indexes : Indexes page n
  pub enough : n ≤ length (cut_entries indexes.width indexes.runs)
