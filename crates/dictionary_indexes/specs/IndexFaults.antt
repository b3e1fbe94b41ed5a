-- The faults of an index page, with 15 behind them.
use Rattle.std.specs.Prelude.{◌≡◌, Bool, List, [], ◌∷◌, ℕ, ◌^◌, ◌≤◌, ◌<◌, leb, length}
use Rattle.std.proofs.Common.{ap, lt_of_lt_of_le, arith, le-ltb}
use Rattle.std.proofs.lemmas.Bool.{lt-leb}
use Rattle.rules.specs.Bits.{some_below}
use Rattle.rules.specs.Answer.{faulty, ◌then◌}
use Rattle.rules.specs.Runs.{read, stream_fault, stream_entry}
use Rattle.rules.specs.Dictionary.{indexes, index_at}
use Rattle.words.specs.SomeBelow.{none_below}
use Rattle.dictionary_indexes.specs.IndexPage.{width_of, stream_of, index_below}

-- 15, of the indexes of a page
abbrev pub large_fault : ℕ → ℕ → List ℕ → ℕ
large_fault limit n page = faulty (some_below n (λ i. leb limit (index_at n page i))) 15

-- no index of w bits is too large for 2^w values
pub none-large : (limit n : ℕ) (page : List ℕ) → 2 ^ width_of page ≤ limit → large_fault limit n page ≡ 0
none-large limit n page h =
    ap (λ (t : Bool). faulty t 15)
    (none_below n (λ i. leb limit (index_at n page i))
    (λ i l. lt-leb limit (index_at n page i) (lt_of_lt_of_le (index_below n page i) h)))

-- a page with its width byte is judged by the stream behind it
pub page-judged : (limit n : ℕ) (page : List ℕ) → 0 < length page → width_of page ≤ 32
    → (stream_fault (indexes n page) then large_fault limit n page)
    ≡ (stream_fault (read (width_of page) n (stream_of page))
    then faulty
    (some_below n (λ i. leb limit (stream_entry (width_of page) (read (width_of page) n (stream_of page)) i))) 15)
unfolding indexes index_at
page-judged limit n [] some narrow = absurd (omega arith)
page-judged limit n (w ∷ s) some narrow = rw (le-ltb 32 w narrow)
