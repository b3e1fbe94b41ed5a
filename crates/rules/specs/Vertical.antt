-- Bit planes: groups of 64 entries, each group w words of 64 bits, the entries' most significant bit first; entry j
-- of a group is bit j.
use Rattle.std.specs.Prelude.{Bool, List, ℕ, zero, suc, ◌+◌, ◌*◌, ◌-◌, ◌/◌, ◌%◌, ℤ, pos, ltb, length, get_or}
use Rattle.rules.specs.Bits.{bit, word, ceil, tabulate, some_below}
use Rattle.rules.specs.Answer.{faulty, ◌then◌, limit_fault, operator_fault, room_fault, large_fault, Outcome}
use Rattle.rules.specs.Answer.{scanned, written}
use Rattle.rules.specs.Comparison.{holds}

-- the column has exactly ceil(n/64) × w words
abbrev pub page_words : ℕ → ℕ → ℕ
page_words w n = ceil n 64 * w

-- the number that bit j of the w words from word `at` on spells, the first word's bit highest
unfoldable pub lane : List ℕ → ℕ → ℕ → ℕ → ℕ
lane words at zero j = 0
lane words at (suc w) j = lane words at w j * 2 + bit (get_or words (at + w) 0) j

-- entry i, also past n: lane i mod 64 of group i div 64
abbrev pub entry : List ℕ → ℕ → ℕ → ℕ
entry words w i = lane words (i / 64 * w) w (i % 64)

-- is some lane past n, up to the end of its group, not 0
abbrev pub unused : List ℕ → ℕ → ℕ → Bool
unused words w n = some_below (64 * ceil n 64 - n) (λ k. ltb 0 (entry words w (n + k)))

-- 5, 6, 7
unfoldable pub page_fault : List ℕ → ℕ → ℕ → ℕ
page_fault words w n =
    faulty (ltb (length words) (page_words w n)) 5
    then faulty (ltb (page_words w n) (length words)) 6
    then faulty (unused words w n) 7

-- 1, 2, 3, 4, 5, 6, 7
unfoldable pub scan : List ℕ → ℕ → ℕ → ℕ → ℤ → ℤ → List ℕ → Outcome ℕ
scan words w n op a b before =
    scanned
    (limit_fault w n then operator_fault op then room_fault (length before) (ceil n 8) then page_fault words w n)
    n (λ i. holds op a b (pos (entry words w i))) before

-- 1, 2, 4, 5, 6, 7
unfoldable pub unpack : List ℕ → ℕ → ℕ → List ℕ → Outcome ℕ
unpack words w n before =
    written
    (limit_fault w n then room_fault (length before) n then page_fault words w n)
    (tabulate n (entry words w)) before

-- plane k of group g: bit j is bit w − 1 − k of the group's entry j, and 0 past the list's end
unfoldable pub plane : ℕ → List ℕ → ℕ → ℕ → ℕ
plane w entries g k = word 64 (λ j. ltb 0 (bit (get_or entries (64 * g + j) 0) (w - 1 - k)))

-- the planes that entries of width w make, group after group
unfoldable pub packed : ℕ → List ℕ → List ℕ
packed w entries = tabulate (page_words w (length entries)) (λ i. plane w entries (i / w) (i % w))

-- 1, 2, 8, 4 (in words)
unfoldable pub pack : List ℕ → ℕ → List ℕ → Outcome ℕ
pack entries w before =
    written
    (limit_fault w (length entries) then large_fault w entries
    then room_fault (length before) (page_words w (length entries)))
    (packed w entries) before
