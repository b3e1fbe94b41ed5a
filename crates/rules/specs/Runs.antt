-- Run streams, as a reader goes through them: the first fault in reading order, or the runs.
use Rattle.std.specs.Prelude.{Bool, true, false, cond, List, [], ◌∷◌, ℕ, zero, suc, ◌+◌, ◌-◌, ◌*◌, ◌/◌, ◌%◌, ◌^◌, ℤ, pos, ltb, leb, eqb, length, take, drop, get_or, Result, Ok, Err}
use Rattle.rules.specs.Bits.{ceil, tabulate, number}
use Rattle.rules.specs.Comparison.{holds}
use Rattle.rules.specs.Answer.{◌then◌, limit_fault, operator_fault, room_fault, Outcome, scanned, written}
use Rattle.rules.specs.Varint.{number_at}
use Rattle.rules.specs.Grammar.{Piece, cut_entries}
use Rattle.rules.specs.Grammar.Piece.{same, packed}
use Rattle.rules.specs.declared.Number.{Number}
use Rattle.rules.specs.declared.Number.TheVariants.{Read, Ended, Beyond}
use Rattle.rules.specs.Refusals.{code}
use Rattle.rules.specs.declared.Refusal.{Refusal}
use Rattle.rules.specs.declared.Run as Given
use Rattle.rules.specs.declared.Run.TheVariants as Found
use Rattle.rules.specs.declared.RunAnswer.{RunAnswer}

-- ---- one run read at a place: how many entries or groups, the value or where the groups begin, and the next place;
-- or the code of what is wrong with it

pub data Run : Type 0 where
  Repeated : ℕ → ℕ → ℕ → Run
  Packed : ℕ → ℕ → ℕ → Run
  Refused : ℕ → Run

-- a run as it is given, or its refusal by its number
abbrev pub run_of : Result Given.Run Refusal → Run
run_of (Ok (Found.Repeated count value next)) = Repeated count value next
run_of (Ok (Found.Packed groups start next)) = Packed groups start next
run_of (Err r) = Refused (code r)

-- ---- one run, where `left` entries are not yet covered

-- `count` equal entries; the value is in ceil(w/8) bytes from `at` on: 11, the body's 5, 8
unfoldable pub repeated_at : ℕ → ℕ → List ℕ → ℕ → ℕ → Run
repeated_at w left page count at =
    cond (ltb left count) (Refused 11)
    (cond (ltb (length page - at) (ceil w 8)) (Refused 5)
    (cond (ltb (number (take (ceil w 8) (drop at page))) (2 ^ w))
    (Repeated count (number (take (ceil w 8) (drop at page))) (at + ceil w 8)) (Refused 8)))

-- `groups` groups of 8 entries, w bytes each, from `at` on: 11, the body's 5
unfoldable pub packed_at : ℕ → ℕ → List ℕ → ℕ → ℕ → Run
packed_at w left page groups at =
    cond (ltb (left + 7) (8 * groups)) (Refused 11)
    (cond (ltb (length page - at) (w * groups)) (Refused 5)
    (Packed groups at (at + w * groups)))

-- by the header h: 10, then even or odd
abbrev pub headed : ℕ → ℕ → List ℕ → Number → Run
headed w left page Ended = Refused 5
headed w left page Beyond = Refused 9
headed w left page (Read h at) =
    cond (eqb (h / 2) 0) (Refused 10)
    (cond (eqb (h % 2) 0) (repeated_at w left page (h / 2) at) (packed_at w left page (h / 2) at))

abbrev pub run_at : ℕ → ℕ → List ℕ → ℕ → Run
run_at w left page at = headed w left page (number_at 32 page at)

-- ---- a stream

-- the runs of a stream, or its first fault
pub data Stream : Type 0 where
  good : List Piece → Stream
  bad : ℕ → Stream

abbrev pub also : Piece → Stream → Stream
also p (good ps) = good (p ∷ ps)
also p (bad code) = bad code

-- 6 where something is left over
abbrev pub at_end : Bool → Stream
at_end true = bad 6
at_end false = good []

-- a run, and what follows it: `onward` reads on with the entries still wanted, at the next place
abbrev pub after : ℕ → ℕ → List ℕ → ℕ → (ℕ → ℕ → Stream) → Run → Stream
after w left page at onward (Refused code) = bad code
after w left page at onward (Repeated count value next) =
    also (same (next - at) count value) (onward (left - count) next)
after w left page at onward (Packed groups start next) =
    also (packed (next - at) groups (take (w * groups) (drop start page))) (onward (left - 8 * groups) next)

-- each run has an entry or more, so as many turns as entries are enough
abbrev pub read_at : ℕ → ℕ → ℕ → List ℕ → ℕ → Stream
read_at w zero zero page at = at_end (ltb at (length page))
read_at w zero (suc left) page at = bad 5
read_at w (suc turns) zero page at = at_end (ltb at (length page))
read_at w (suc turns) (suc left) page at =
    after w (suc left) page at (λ l next. read_at w turns l page next) (run_at w (suc left) page at)

unfoldable pub read : ℕ → ℕ → List ℕ → Stream
read w n page = read_at w n n page 0

abbrev pub stream_fault : Stream → ℕ
stream_fault (good ps) = 0
stream_fault (bad code) = code

-- entry i of a stream that is good; those past n are not asked for
abbrev pub stream_entry : ℕ → Stream → ℕ → ℕ
stream_entry w (good ps) i = get_or (cut_entries w ps) i 0
stream_entry w (bad code) i = 0

-- ---- the calls: 1, 2, 3, 4, then the first fault in reading order

unfoldable pub scan : List ℕ → ℕ → ℕ → ℕ → ℤ → ℤ → List ℕ → Outcome ℕ
scan page w n op a b before =
    scanned
    (limit_fault w n then operator_fault op then room_fault (length before) (ceil n 8) then stream_fault (read w n page))
    n (λ i. holds op a b (pos (stream_entry w (read w n page) i))) before

unfoldable pub unpack : List ℕ → ℕ → ℕ → List ℕ → Outcome ℕ
unpack page w n before =
    written
    (limit_fault w n then room_fault (length before) n then stream_fault (read w n page))
    (tabulate n (stream_entry w (read w n page))) before

-- one run, asked for by itself: 1, 2, 5 for a place past the page's end, 11 if n or more are covered, then as above
unfoldable pub one_at : ℕ → ℕ → ℕ → List ℕ → ℕ → Run
one_at w n covered page at =
    cond (ltb 32 w) (Refused 1)
    (cond (ltb 16384 n) (Refused 2)
    (cond (ltb (length page) at) (Refused 5)
    (cond (leb n covered) (Refused 11) (run_at w (n - covered) page at))))

-- what is handed back of it: the packed bytes, as a part of the page, and beside it code, kind, length in entries,
-- repeated value, next place
pub data Handed : Type 0 where
  handed : List ℕ → List ℕ → Handed

-- an empty part and kind 0 for a repeated run, and for a refused one, whose length, value and next place are 0;
-- kind 1 for a packed run, 8 entries a group, also past n
abbrev pub handed_back : List ℕ → Run → Handed
handed_back page (Refused code) = handed [] (code ∷ 0 ∷ 0 ∷ 0 ∷ 0 ∷ [])
handed_back page (Repeated count value next) = handed [] (0 ∷ 0 ∷ count ∷ value ∷ next ∷ [])
handed_back page (Packed groups start next) =
    handed (take (next - start) (drop start page)) (0 ∷ 1 ∷ (8 * groups) ∷ 0 ∷ next ∷ [])

unfoldable pub one_run : ℕ → ℕ → ℕ → List ℕ → ℕ → Handed
one_run w n covered page at = handed_back page (one_at w n covered page at)

-- the same as numbers, for who gets no part of the page: where the packed bytes begin, and how many they are; both
-- 0 for a repeated and a refused run
abbrev pub answer_of : Run → RunAnswer
answer_of (Refused code) =
    record { code = code; kind = 0; length = 0; value = 0; next = 0; body_at = 0; body_len = 0 }
answer_of (Repeated count value next) =
    record { code = 0; kind = 0; length = count; value = value; next = next; body_at = 0; body_len = 0 }
answer_of (Packed groups start next) =
    record
    { code = 0; kind = 1; length = 8 * groups; value = 0; next = next; body_at = start; body_len = next - start }

unfoldable pub one_answer : ℕ → ℕ → ℕ → List ℕ → ℕ → RunAnswer
one_answer w n covered page at = answer_of (one_at w n covered page at)
