-- The scan of a page by its layout, and the words of a page of bit planes.
use Rattle.std.specs.Prelude.{◌≡◌, Bool, true, false, List, ℕ, ◌+◌, ◌-◌, ◌*◌, ◌/◌, min, length, take, drop}
use Rattle.std.proofs.Common.{ap, ap₂, ◌∙◌, arith, take_at}
use Rattle.rules.specs.Bits.{number, tabulate, put}
use Rattle.rules.specs.Bits.Order.{low_first}
use Rattle.rules.specs.Answer.{Outcome}
use Rattle.rules.specs.Horizontal as OfHorizontal
use Rattle.rules.specs.Vertical as Vertical
use Rattle.rules.specs.Runs as OfRuns
use Rattle.rules.specs.Delta as OfDelta
use Rattle.rules.specs.Dictionary as OfDictionary
use Rattle.words.specs.Tabulated.{length-tabulate}
use Rattle.scan_page.specs.declared.layouts.PageLayout.{PageLayout}
use Rattle.scan_page.specs.declared.layouts.PageLayout.TheVariants.{Horizontal, Planes, Runs, Delta, Dictionary}
use Rattle.scan_page.specs.declared.layouts.Question.{Question}

-- the pages of bit planes are words
abbrev pub in_words : PageLayout → Bool
in_words (Planes width) = true
in_words (Horizontal width) = false
in_words (Runs width) = false
in_words Delta = false
in_words Dictionary = false

-- word k of a page: bytes 8 × k to 8 × k + 7, low byte first
abbrev pub word_at : List ℕ → ℕ → ℕ
word_at page k = number (take 8 (drop (8 * k) page))

-- the words of a page, of which there is room for 20,480
unfoldable pub words_of : List ℕ → List ℕ
words_of page = tabulate (min (length page / 8) 20480) (word_at page)

abbrev pub scan_by : PageLayout → Question → List ℕ → List ℕ → ℕ → List ℕ → Outcome ℕ
scan_by (Horizontal width) q dictionary page n before = OfHorizontal.scan low_first page width n q.op q.a q.b before
scan_by (Planes width) q dictionary page n before = Vertical.scan (words_of page) width n q.op q.a q.b before
scan_by (Runs width) q dictionary page n before = OfRuns.scan page width n q.op q.a q.b before
scan_by Delta q dictionary page n before = OfDelta.scan 32 page n q.op q.a q.b before
scan_by Dictionary q dictionary page n before = OfDictionary.scan dictionary page n q.op q.a q.b before

unfoldable pub scan_of : Question → List ℕ → List ℕ → ℕ → List ℕ → Outcome ℕ
scan_of q dictionary page n before = scan_by q.layout q dictionary page n before

-- the words put into a room for 20,480 are its first ones
pub front-words : (room words page : List ℕ) (k : ℕ) → length room ≡ 20480 → k ≡ min (length page / 8) (length room)
    → words ≡ put room 0 (tabulate k (word_at page))
    → take (k - 0) words ≡ words_of page
unfolding put words_of
front-words room words page k size some e =
    let all : k - 0 ≡ k = omega arith in
    ap₂ (λ (n : ℕ) (l : List ℕ). take n l) all e
    ∙ take_at (tabulate k (word_at page)) (drop (0 + length (tabulate k (word_at page))) room) k
    (length-tabulate k (word_at page))
    ∙ ap (λ (n : ℕ). tabulate n (word_at page)) (some ∙ ap (min (length page / 8)) size)
