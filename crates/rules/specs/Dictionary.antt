-- Dictionary columns: a dictionary of signed 32-bit values, and an index page.
use Rattle.std.specs.Prelude.{Bool, not, cond, ◌||◌, List, [], ◌∷◌, ℕ, suc, ◌-◌, ◌*◌, ◌/◌, ◌%◌, ℤ, ltb, leb, eqb, length, take, drop}
use Rattle.std.specs.Int.Signed.{le_z}
use Rattle.rules.specs.Bits.{ceil, number, tabulate, some_below}
use Rattle.rules.specs.Answer.{faulty, ◌then◌, count_fault, operator_fault, room_fault, Outcome, scanned, written}
use Rattle.rules.specs.Comparison.{holds}
use Rattle.rules.specs.Signed.{signed}
use Rattle.rules.specs.Runs.{Stream, read, stream_fault, stream_entry}
use Rattle.rules.specs.Runs.Stream.{bad}

-- ---- the dictionary

-- 4-byte signed numbers, low byte first
unfoldable pub value : List ℕ → ℕ → ℤ
value dict k = signed 32 (number (take 4 (drop (4 * k) dict)))

abbrev pub count : List ℕ → ℕ
count dict = length dict / 4

-- is some value not above the one before it
unfoldable pub unordered : List ℕ → Bool
unordered dict = some_below (count dict - 1) (λ k. le_z (value dict (suc k)) (value dict k))

-- 14: length no multiple of 4, over 65,536 bytes, or values not strictly ascending
unfoldable pub dictionary_fault : List ℕ → ℕ
dictionary_fault dict = faulty (not (eqb (length dict % 4) 0) || ltb 65536 (length dict) || unordered dict) 14

-- ---- the index page

-- one width byte (5, 1), and then a run stream
unfoldable pub indexes : ℕ → List ℕ → Stream
indexes n [] = bad 5
indexes n (w ∷ s) = cond (ltb 32 w) (bad 1) (read w n s)

unfoldable pub index_at : ℕ → List ℕ → ℕ → ℕ
index_at n [] i = 0
index_at n (w ∷ s) i = stream_entry w (read w n s) i

-- 15: some index is not below the dictionary's count; those past n are not asked for
unfoldable pub index_fault : List ℕ → ℕ → List ℕ → ℕ
index_fault dict n page = faulty (some_below n (λ i. leb (count dict) (index_at n page i))) 15

-- ---- the calls: 2, 3, 4, 14, the index page in reading order, 15

-- 14, then the page, then 15
unfoldable pub column_fault : List ℕ → ℕ → List ℕ → ℕ
column_fault dict n page = dictionary_fault dict then stream_fault (indexes n page) then index_fault dict n page

unfoldable pub scan : List ℕ → List ℕ → ℕ → ℕ → ℤ → ℤ → List ℕ → Outcome ℕ
scan dict page n op a b before =
    scanned
    (count_fault n then operator_fault op then room_fault (length before) (ceil n 8) then column_fault dict n page)
    n (λ i. holds op a b (value dict (index_at n page i))) before

unfoldable pub unpack : List ℕ → List ℕ → ℕ → List ℤ → Outcome ℤ
unpack dict page n before =
    written
    (count_fault n then room_fault (length before) n then column_fault dict n page)
    (tabulate n (λ i. value dict (index_at n page i))) before
