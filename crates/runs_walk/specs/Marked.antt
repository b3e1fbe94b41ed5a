-- The bits that a stream's runs set are the bitmap of its entries.
use Rattle.std.specs.Prelude.{◌≡◌, refl, Bool, List, ℕ, ◌+◌, ◌≤◌, ◌<◌, get_or}
use Rattle.std.proofs.Common.{ap, ◌∙◌, arith}
use Rattle.rules.specs.Bits.{word, put}
use Rattle.rules.specs.Bitmap.{bitmap}
use Rattle.rules.specs.Grammar.{Piece, cut_entries, Cut}
use Rattle.words.specs.Bits.{word-ext}
use Rattle.words.specs.Appended.{appended}
use Rattle.bitmaps.specs.Bitmaps.{bitmap-none, appended-bitmap}
use Rattle.runs_read.specs.TwoPasses.{put_all, pass, pass-cut}
use Rattle.runs_walk.specs.Covered.{written, covers}
use Rattle.runs_walk.specs.CountedTurns.{OfValues}

-- m entries' bits are put behind those in place
abbrev pub marks : (ℕ → Bool) → ℕ → ℕ → (ℕ → ℕ) → List ℕ → List ℕ
marks test i m value out = appended out i (word m (λ k. test (value k))) m

pub marks-values : (test : ℕ → Bool) → OfValues (marks test)
marks-values test i m f g out same = ap (λ (x : ℕ). appended out i x m) (word-ext m (λ k h. ap test (same k h)))

-- what a pass over a page leaves of a bitmap
unfoldable pub marked : (ℕ → Bool) → ℕ → ℕ → List ℕ → List ℕ → List ℕ
marked test w n page out = pass (written n (marks test) w) w n page out

pub marked-pass : (test : ℕ → Bool) (w n : ℕ) (page out : List ℕ)
    → marked test w n page out ≡ pass (written n (marks test) w) w n page out
unfolding marked
marked-pass test w n page out = refl

pub marked-cut : (test : ℕ → Bool) (w n : ℕ) (page : List ℕ) (ps : List Piece) (out : List ℕ) → Cut w n page ps
    → marked test w n page out ≡ put out 0 (bitmap n (λ i. test (get_or (cut_entries w ps) i 0)))
unfolding marked
marked-cut test w n page ps out cut =
    pass-cut (written n (marks test) w) w n page ps out cut
    ∙ ap (put_all (written n (marks test) w) 0 ps) none
    ∙ covers n (marks test) w holding grows n 0 page ps (λ i. get_or (cut_entries w ps) i 0) cut (omega arith)
    (λ k h. ap (λ (i : ℕ). get_or (cut_entries w ps) i 0) (omega arith))
  where
    holding : ℕ → (ℕ → ℕ) → List ℕ
    holding i f = put out 0 (bitmap i (λ k. test (f k)))

    grows : (i m : ℕ) (f value : ℕ → ℕ) → i + m ≤ n → ((k : ℕ) → k < m → value k ≡ f (i + k))
        → marks test i m value (holding i f) ≡ holding (i + m) f
    grows i m f value fits e =
        marks-values test i m value (λ k. f (i + k)) (holding i f) e
        ∙ appended-bitmap out i m (λ k. test (f k))

    none : out ≡ holding 0 (λ i. get_or (cut_entries w ps) i 0)
    none = bitmap-none out 0 (λ i. test (get_or (cut_entries w ps) i 0))
