-- The entries of a good stream: each is below 2^w, and what the two passes leave is theirs.
use Rattle.std.specs.Prelude.{◌≡◌, refl, Bool, List, ℕ, ◌^◌, ◌≤◌, ◌<◌, pos, length}
use Rattle.std.proofs.Common.{sym, ap, ◌∙◌, lt_of_lt_of_le, pow_pos, pow_mono}
use Rattle.rules.specs.Bits.{put, tabulate}
use Rattle.rules.specs.Bitmap.{bitmap}
use Rattle.rules.specs.Runs.{Stream, read, stream_fault, stream_entry}
use Rattle.rules.specs.Runs.Stream.{good, bad}
use Rattle.bitmaps.specs.Bitmaps.{bitmap-ext}
use Rattle.compare.specs.Band.{banded}
use Rattle.compare.specs.Range.{ranged, range_of}
use Rattle.compare.specs.Ranges.{ranged-band}
use Rattle.compare.specs.declared.bands.Band.{Band}
use Rattle.runs_read.specs.Entries.{cut_small}
use Rattle.runs_read.specs.Exact.{exact, accepted}
use Rattle.runs_walk.specs.Marked.{marked, marked-cut}
use Rattle.runs_walk.specs.Placed.{placed, placed-cut}

-- ---- below 2^w

pub entry-below : (w n : ℕ) (page : List ℕ) (i : ℕ) → stream_entry w (read w n page) i < 2 ^ w
entry-below w n page i = go (read w n page) refl
  where
    go : (s : Stream) → read w n page ≡ s → stream_entry w s i < 2 ^ w
    go (good ps) e = cut_small ((exact w n page ps).0 e) i
    go (bad code) e = pow_pos w

pub entry-small : (w n : ℕ) (page : List ℕ) (i : ℕ) → w ≤ 32 → stream_entry w (read w n page) i < 4294967296
entry-small w n page i h = lt_of_lt_of_le (entry-below w n page i) (pow_mono {i = w} {j = 32} h)

-- ---- what is left by a pass over a stream without a fault

pub marked-read : (test : ℕ → Bool) (w n : ℕ) (page out : List ℕ) → stream_fault (read w n page) ≡ 0
    → marked test w n page out ≡ put out 0 (bitmap n (λ i. test (stream_entry w (read w n page) i)))
marked-read test w n page out none =
    let cut = (accepted w n page).0 none in
    marked-cut test w n page cut.0 out cut.1
    ∙ ap (λ s. put out 0 (bitmap n (λ i. test (stream_entry w s i)))) (sym ((exact w n page cut.0).1 cut.1))

pub marked-banded : (band : Band) (w n : ℕ) (page out : List ℕ) → w ≤ 32 → stream_fault (read w n page) ≡ 0
    → marked (ranged (range_of band)) w n page out
    ≡ put out 0 (bitmap n (λ i. banded band (pos (stream_entry w (read w n page) i))))
marked-banded band w n page out h none =
    marked-read (ranged (range_of band)) w n page out none
    ∙ ap (put out 0)
    (bitmap-ext n (λ i l. ranged-band band (stream_entry w (read w n page) i) (entry-small w n page i h)))

pub placed-read : {A : Type 0} (value : ℕ → A) (w n : ℕ) (page : List ℕ) (out : List A) → n ≤ length out
    → stream_fault (read w n page) ≡ 0
    → placed value w n page out ≡ put out 0 (tabulate n (λ i. value (stream_entry w (read w n page) i)))
placed-read value w n page out room none =
    let cut = (accepted w n page).0 none in
    placed-cut value w n page cut.0 out room cut.1
    ∙ ap (λ s. put out 0 (tabulate n (λ i. value (stream_entry w s i)))) (sym ((exact w n page cut.0).1 cut.1))
