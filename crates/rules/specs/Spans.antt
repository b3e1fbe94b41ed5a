-- Spans (document 02, #101): the maximal stretches of selected entries as a list of pairs, first and last number, lying
-- flat; and such a list as a bitmap again.
use Rattle.std.specs.Prelude.{Bool, true, false, not, ◌&&◌, ◌||◌, List, [], ◌∷◌, ℕ, zero, suc, ◌+◌, ◌/◌, ◌%◌, ltb, leb, eqb, length}
use Rattle.rules.specs.Bits.{ceil, bit_at}
use Rattle.rules.specs.Bits.Order.{low_first}
use Rattle.rules.specs.Bitmap.{bitmap, tally}
use Rattle.rules.specs.Answer.{faulty, ◌then◌, count_fault, room_fault, Outcome, answered}

-- ---- a bitmap's stretches

-- is entry i one of the first n of a bitmap, and selected; nothing else of the bitmap is read
unfoldable pub selected : List ℕ → ℕ → ℕ → Bool
selected bits n i = ltb i n && eqb (bit_at low_first 8 bits i) 1

-- a stretch begins at a selected entry with none selected in front of it
unfoldable pub begins : (ℕ → Bool) → ℕ → Bool
begins test zero = test zero
begins test (suc i) = test (suc i) && not (test i)

-- and ends at one with none selected behind it
unfoldable pub ends : (ℕ → Bool) → ℕ → Bool
ends test i = test i && not (test (suc i))

-- a number in front of a list, if it is to stand there
abbrev pub noted : Bool → ℕ → List ℕ → List ℕ
noted true i l = i ∷ l
noted false i l = l

-- of k entries from entry i on: the numbers of those where a stretch begins, and of those where one ends
unfoldable pub edges : ℕ → ℕ → (ℕ → Bool) → List ℕ
edges zero i test = []
edges (suc k) i test = noted (begins test i) i (noted (ends test i) i (edges k (suc i) test))

-- the stretches of a bitmap's first n entries: each ends before the next begins, so that the numbers are pairs
unfoldable pub spans : List ℕ → ℕ → List ℕ
spans bits n = edges n 0 (selected bits n)

-- 2, 5 for a short bitmap, 4; the number is the pairs written
unfoldable pub from_bitmap : List ℕ → ℕ → List ℕ → Outcome ℕ
from_bitmap bits n before =
    answered
    (count_fault n then faulty (ltb (length bits) (ceil n 8)) 5 then room_fault (length before) (length (spans bits n)))
    (length (spans bits n) / 2) (spans bits n) before

-- ---- a list's bitmap

-- is entry i in one of the stretches
unfoldable pub covered : List ℕ → ℕ → Bool
covered [] i = false
covered (first ∷ []) i = false
covered (first ∷ last ∷ s) i = leb first i && leb i last || covered s i

-- does a stretch begin below the least number that may stand there, end before its start, or reach n; behind each at
-- least one entry is left out
unfoldable pub misplaced : ℕ → ℕ → List ℕ → Bool
misplaced n from [] = false
misplaced n from (first ∷ []) = false
misplaced n from (first ∷ last ∷ s) = ltb first from || ltb last first || leb n last || misplaced n (last + 2) s

-- 2, 5 for a list of odd length, 4, 18; the bitmap is written as a scan's is, and the number is the bits set
unfoldable pub to_bitmap : List ℕ → ℕ → List ℕ → Outcome ℕ
to_bitmap list n before =
    answered
    (count_fault n then faulty (not (eqb (length list % 2) 0)) 5 then room_fault (length before) (ceil n 8)
    then faulty (misplaced n 0 list) 18)
    (tally n (covered list)) (bitmap n (covered list)) before
