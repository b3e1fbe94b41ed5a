-- What the writer writes is read back: the grammar cuts its stream into runs that have the entries given.
use Rattle.std.specs.Prelude.{◌≡◌, refl, take, drop}
use Rattle.std.proofs.Math.Path.{sym}
use Rattle.std.proofs.Common.{ap, subst, ◌∙◌, arith, length-drop, get_or-take}
use mathlib.Core.List.{List, [], ◌∷◌, ◌++◌}
use Prim.Native.Nat.{ℕ, zero, suc, ◌+◌, ◌-◌, ◌*◌, ◌^◌, ◌<◌, ◌≤◌}
use Rattle.std.proofs.Math.ListN.{length, get_or}
use Rattle.rules.specs.Bits.{ceil, tabulate, number, bytes}
use Rattle.rules.specs.Bits.Order.{low_first}
use Rattle.rules.specs.Horizontal.{packed}
use Rattle.rules.specs.Shortest.{shortest}
use Rattle.rules.specs.Runs.{Stream, read, stream_fault, stream_entry}
use Rattle.rules.specs.Runs.Stream.{good}
use Rattle.rules.specs.Grammar.{Piece, entries, piece_entries, cut_entries, Header, OneRun, Cut}
use Rattle.rules.specs.Grammar.OneRun.{repeats, packs}
use Rattle.rules.specs.Grammar.Cut.{done, next}
use Rattle.rules.specs.RunWriter.{stretch, groups_of, next_run, taken, filled, run_bytes, stream}
use Rattle.rules.specs.declared.Next.{Next}
use Rattle.rules.specs.declared.Next.TheVariants.{Repeats, Packs}
use Rattle.words.specs.Bytes.{length-bytes, number-whole}
use Rattle.words.specs.Joined.{Small, small-drop}
use Rattle.words.specs.Tabulated.{length-tabulate, tabulate-ext, tabulate-same, tabulate_list, small-tabulate}
use Rattle.packed_entries.specs.NoneTooLarge.{large_of}
use Rattle.packed_entries.specs.RoundTrip.{unpack-packed}
use Rattle.varints.specs.Shortness.{shortest-spells, shortest-size}
use Rattle.runs_read.specs.Entries.{length-piece}
use Rattle.runs_read.specs.Exact.{exact}
use Rattle.runs_write.specs.Cuts.{stretch_le, stretch_each, groups_le, groups-within, groups-some, by_kind}
use Rattle.runs_write.specs.Cuts.{fewer_left, by_runs, stream-none, stream-turn}
use Rattle.runs_write.specs.Sizes.{length-groups}

-- ---- one run

-- a run of the writer, from the entries s on, is a run of the grammar; its entries are those of s, filled with 0
pub record RunBack (w : ℕ) (s : List ℕ) (run : Next) : Type 0 where
  pub piece : Piece
  pub one : OneRun w (length s) (run_bytes w s run) piece
  pub has : piece_entries w piece ≡ tabulate (taken run) (λ i. get_or s i 0)

header : (h : ℕ) → h < 2 ^ 32 → Header (shortest h) h
header h small = record { spells = shortest-spells h; short = (shortest-size 32 h small).1; small = small }

module _ (w : ℕ) (s : List ℕ) (few : length s ≤ 16384) (small : Small w s) where
  repeats-back : 8 ≤ stretch s → RunBack w s (Repeats (stretch s))
  unfolding run_bytes
  repeats-back long =
      let h : ℕ = 2 * stretch s in
      let v : List ℕ = bytes (ceil w 8) (get_or s 0 0) in
      let value : number v ≡ get_or s 0 0 = number-whole (ceil w 8) w (get_or s 0 0) (small 0) (omega arith) in
      let fits : stretch s ≤ length s = stretch_le s in
      record {
        piece = _;
        one =
            repeats (shortest h) v (header h (omega arith)) (omega arith) fits
            (length-bytes (ceil w 8) (get_or s 0 0)) (rw value (small 0));
        has = sym (tabulate-same (stretch s) (λ i. get_or s i 0) (number v) (λ i l. stretch_each s i l ∙ sym value));
      }

  packs-back : 0 < length s → stretch s < 8 → RunBack w s (Packs (groups_of 63 s))
  unfolding run_bytes
  packs-back some short =
      let groups : ℕ = groups_of 63 s in
      let h : ℕ = 2 * groups + 1 in
      let xs : List ℕ = filled groups s in
      let size : length xs ≡ 8 * groups = length-tabulate (8 * groups) (λ i. get_or s i 0) in
      let fit : Small w xs = small-tabulate w (8 * groups) (λ i. get_or s i 0) small in
      record {
        piece = _;
        one =
            packs (shortest h) (packed low_first w xs) (header h (omega (arith, groups_le 63 s)))
            (groups-some 62 s some short) (groups-within 63 s) (length-groups w groups s);
        has = rw size at (unpack-packed w xs (large_of w xs fit));
      }

  pub run-back : 0 < length s → RunBack w s (next_run s)
  run-back some = by_kind s (RunBack w s) repeats-back (packs-back some)

-- ---- the stream

-- a page is cut into runs that have the entries s, and behind them only what fills the last group
pub record StreamBack (w : ℕ) (s page : List ℕ) : Type 0 where
  pub runs : List Piece
  pub cut : Cut w (length s) page runs
  pub has : take (length s) (cut_entries w runs) ≡ s

-- the first k entries, filled with 0, and behind them the others
in_front_lem : (s : List ℕ) (k : ℕ) (rest : List ℕ) → take (length (drop k s)) rest ≡ drop k s
    → take (length s) (tabulate k (λ i. get_or s i 0) ++ rest) ≡ s
unfolding tabulate
in_front_lem s zero rest e = e
in_front_lem [] (suc k) rest e = refl
in_front_lem (x ∷ s) (suc k) rest e = ap (λ (l : List ℕ). x ∷ l) (in_front_lem s k rest e)

-- one run, and behind it the runs of the entries that it leaves
one_more : (w : ℕ) (s page : List ℕ) (run : Next) → 0 < length s → RunBack w s run
    → StreamBack w (drop (taken run) s) page → StreamBack w s (run_bytes w s run ++ page)
unfolding cut_entries
one_more w s page run some first rest =
    let k : ℕ = taken run in
    let size : entries first.piece ≡ k =
    sym (length-piece w first.piece) ∙ ap length first.has ∙ length-tabulate k (λ i. get_or s i 0) in
    let left : length (drop k s) ≡ length s - entries first.piece =
    length-drop k s ∙ ap (λ (n : ℕ). length s - n) (sym size) in
    record {
      runs = first.piece ∷ rest.runs;
      cut =
          next (run_bytes w s run) page some first.one
          (subst (λ (n : ℕ). Cut w n page rest.runs) left rest.cut);
      has = rw first.has (in_front_lem s k (cut_entries w rest.runs) rest.has);
    }

-- every list of entries below 2^w that is not too long
pub stream-back : (w : ℕ) (s : List ℕ) → length s ≤ 16384 → Small w s → StreamBack w s (stream w s)
unfolding cut_entries
stream-back w =
    by_runs (λ s. length s ≤ 16384 → Small w s → StreamBack w s (stream w s))
    (λ few small. rw stream-none (record { runs = []; cut = done; has = refl }))
    (λ s some rest few small. rw (stream-turn w s some)
    (one_more w s _ (next_run s) some (run-back w s few small some)
    (rest (omega (arith, fewer_left s some)) (small-drop w (taken (next_run s)) s small))))

module _ (w : ℕ) (s : List ℕ) (few : length s ≤ 16384) (small : Small w s) where
  abbrev back : StreamBack w s (stream w s)
  back = stream-back w s few small

  -- so a reader finds these runs, no fault, and the entries
  pub read_back : read w (length s) (stream w s) ≡ good back.runs
  read_back = (exact w (length s) (stream w s) back.runs).1 back.cut

  pub fault-back : stream_fault (read w (length s) (stream w s)) ≡ 0
  fault-back = ap stream_fault read_back

  pub entry-back : (i : ℕ) → i < length s → stream_entry w (read w (length s) (stream w s)) i ≡ get_or s i 0
  entry-back i h =
      ap (λ (r : Stream). stream_entry w r i) read_back ∙ sym (get_or-take (length s) (cut_entries w back.runs) i 0 h)
      ∙ ap (λ (l : List ℕ). get_or l i 0) back.has

  pub entries-back : tabulate (length s) (stream_entry w (read w (length s) (stream w s))) ≡ s
  entries-back =
      tabulate-ext (length s) (stream_entry w (read w (length s) (stream w s))) (λ i. get_or s i 0) entry-back
      ∙ tabulate_list s 0
