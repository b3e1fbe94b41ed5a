-- What the answer to a page leaves of the bitmap.
use Rattle.std.specs.Prelude.{◌≡◌, Bool, true, false, List, ℕ, zero, suc, ◌*◌, ◌/◌, ◌%◌, ◌≤◌, min, length}
use Rattle.std.proofs.Common.{ap, arith}
use Rattle.rules.specs.Answer.{Outcome, accepted, answered}
use Rattle.rules.specs.Answer.Outcome.{outcome}
use Rattle.rules.specs.declared.Answer.{Answer}
use Rattle.rules.specs.Horizontal as OfHorizontal
use Rattle.rules.specs.Vertical as Vertical
use Rattle.rules.specs.Runs as OfRuns
use Rattle.rules.specs.Delta as OfDelta
use Rattle.rules.specs.Dictionary as OfDictionary
use Rattle.words.specs.Tabulated.{length-tabulate}
use Rattle.scan_page.specs.Layouts.{in_words, word_at, words_of, scan_by, scan_of}
use Rattle.scan_page.specs.declared.layouts.PageLayout.{PageLayout}
use Rattle.scan_page.specs.declared.layouts.PageLayout.TheVariants.{Horizontal, Planes, Runs, Delta, Dictionary}
use Rattle.scan_page.specs.declared.layouts.Question.{Question}

-- some bytes, in the code those that the file gave, whose scan is accepted and makes this bitmap of the one before
pub record Scanned (q : Question) (dictionary : List ℕ) (n : ℕ) (before after : List ℕ) : Type 0 where
  pub page : List ℕ
  pub count : ℕ
  -- of a page of bit planes every byte is in its words
  pub whole : in_words q.layout ≡ true → length (words_of page) * 8 ≡ length page
  pub scan : outcome (accepted count) after ≡ scan_of q dictionary page n before

-- yes: a page was scanned; no: the bitmap is as it was before
abbrev pub Answered : Question → List ℕ → ℕ → List ℕ → Bool → List ℕ → Type 0
Answered q dictionary n before true after = Scanned q dictionary n before after
Answered q dictionary n before false after = after ≡ before

-- bytes that are words, of which there is room for 20,480
pub all_in_words : (page : List ℕ) → length page ≤ 163840 → length page % 8 ≡ 0
    → length (words_of page) * 8 ≡ length page
unfolding words_of
all_in_words page room words = omega (arith, length-tabulate (min (length page / 8) 20480) (word_at page))

-- ---- a refused page changes nothing, in every layout

abbrev Keeps : List ℕ → Outcome ℕ → Type 0
Keeps before o = (r : Answer) (after : List ℕ) → outcome r after ≡ o → (r.code ≡ 0 → ⊥) → after ≡ before

answered_keeps : (code n : ℕ) (wrote before : List ℕ) → Keeps before (answered code n wrote before)
unfolding answered
answered_keeps zero n wrote before r after e refused =
    let good : r ≡ accepted n = cc in absurd (refused (ap (λ (a : Answer). a.code) good))
answered_keeps (suc code) n wrote before r after e refused = cc

pub scan_keeps : (q : Question) (dictionary page : List ℕ) (n : ℕ) (before : List ℕ)
    → Keeps before (scan_of q dictionary page n before)
unfolding scan_of OfHorizontal.scan Vertical.scan OfRuns.scan OfDelta.scan OfDictionary.scan
scan_keeps q dictionary page n before = go q.layout
  where
    go : (layout : PageLayout) → Keeps before (scan_by layout q dictionary page n before)
    go (Horizontal width) = answered_keeps _ _ _ before
    go (Planes width) = answered_keeps _ _ _ before
    go (Runs width) = answered_keeps _ _ _ before
    go Delta = answered_keeps _ _ _ before
    go Dictionary = answered_keeps _ _ _ before
