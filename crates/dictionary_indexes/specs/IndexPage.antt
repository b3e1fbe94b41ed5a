-- The laws of index pages: the width byte, and the run stream behind it.
use Rattle.std.specs.Prelude.{◌≡◌, refl, Bool, true, false, cond, List, [], ◌∷◌, ℕ, ◌^◌, ◌≤◌, ◌<◌, ltb, length, drop, get_or}
use Rattle.std.proofs.Common.{arith, ltb-false}
use Rattle.rules.specs.Bits.{put, tabulate}
use Rattle.rules.specs.Bitmap.{bitmap}
use Rattle.rules.specs.Runs.{read, stream_fault}
use Rattle.rules.specs.Runs.Stream.{bad}
use Rattle.rules.specs.Dictionary.{indexes, index_at}
use Rattle.runs_walk.specs.Marked.{marked}
use Rattle.runs_walk.specs.Placed.{placed}
use Rattle.runs_walk.specs.Values.{entry-below, marked-read, placed-read}

-- the width byte of a page, and the stream behind it
abbrev pub width_of : List ℕ → ℕ
width_of page = get_or page 0 0

abbrev pub stream_of : List ℕ → List ℕ
stream_of page = drop 1 page

pub indexes-none : (n : ℕ) (page : List ℕ) → length page ≡ 0 → indexes n page ≡ bad 5
unfolding indexes
indexes-none n [] e = refl
indexes-none n (w ∷ s) e = absurd (omega arith)

pub indexes-some : (n : ℕ) (page : List ℕ) → 0 < length page
    → indexes n page ≡ cond (ltb 32 (width_of page)) (bad 1) (read (width_of page) n (stream_of page))
unfolding indexes
indexes-some n [] h = absurd (omega arith)
indexes-some n (w ∷ s) h = refl

-- ---- a page without a fault

pub record Good (n : ℕ) (page : List ℕ) : Type 0 where
  pub some : 0 < length page
  pub within : width_of page ≤ 32
  pub reads : stream_fault (read (width_of page) n (stream_of page)) ≡ 0

pub good-page : (n : ℕ) (page : List ℕ) → stream_fault (indexes n page) ≡ 0 → Good n page
unfolding indexes
good-page n [] e = absurd (omega arith)
good-page n (w ∷ s) e = go (ltb 32 w) refl e
  where
    go : (t : Bool) → ltb 32 w ≡ t → stream_fault (cond t (bad 1) (read w n s)) ≡ 0 → Good n (w ∷ s)
    go true f z = absurd (omega arith)
    go false f z = record { some = omega arith; within = ltb-false 32 w f; reads = z }

pub index_below : (n : ℕ) (page : List ℕ) (i : ℕ) → index_at n page i < 2 ^ width_of page
unfolding index_at
index_below n [] i = omega arith
index_below n (w ∷ s) i = entry-below w n s i

-- what a pass over the indexes leaves of a bitmap
pub indexes-marked : (test : ℕ → Bool) (n : ℕ) (page out : List ℕ) → stream_fault (indexes n page) ≡ 0
    → marked test (width_of page) n (stream_of page) out ≡ put out 0 (bitmap n (λ i. test (index_at n page i)))
unfolding index_at
indexes-marked test n [] out e = absurd (omega (arith, (good-page n [] e).some))
indexes-marked test n (w ∷ s) out e = marked-read test w n s out (good-page n (w ∷ s) e).reads

-- and of places, each index as the value that it stands for
pub indexes-placed : {A : Type 0} (value : ℕ → A) (n : ℕ) (page : List ℕ) (out : List A) → n ≤ length out
    → stream_fault (indexes n page) ≡ 0
    → placed value (width_of page) n (stream_of page) out ≡ put out 0 (tabulate n (λ i. value (index_at n page i)))
unfolding index_at
indexes-placed value n [] out room e = absurd (omega (arith, (good-page n [] e).some))
indexes-placed value n (w ∷ s) out room e = placed-read value w n s out room (good-page n (w ∷ s) e).reads
