-- Bare horizontal pages: entries of w bits end to end, over the bit order (lowest first; the older form has the
-- highest first).
use Rattle.std.specs.Prelude.{List, ℕ, ◌*◌, ◌-◌, ℤ, pos, ltb, length}
use Rattle.rules.specs.Bits.{Order, field, entry, entry_byte, ceil, tabulate}
use Rattle.rules.specs.Answer.{faulty, ◌then◌, limit_fault, operator_fault, room_fault, large_fault, Outcome}
use Rattle.rules.specs.Answer.{scanned, written}
use Rattle.rules.specs.Comparison.{holds}

-- the page has exactly ceil(n × w / 8) bytes
abbrev pub page_bytes : ℕ → ℕ → ℕ
page_bytes w n = ceil (n * w) 8

-- what the bits behind the last entry spell
abbrev pub unused : Order → List ℕ → ℕ → ℕ → ℕ
unused o page w n = field o page (n * w) (8 * page_bytes w n - n * w)

-- 5, 6, 7
unfoldable pub page_fault : Order → List ℕ → ℕ → ℕ → ℕ
page_fault o page w n =
    faulty (ltb (length page) (page_bytes w n)) 5
    then faulty (ltb (page_bytes w n) (length page)) 6
    then faulty (ltb 0 (unused o page w n)) 7

-- 1, 2, 3, 4, 5, 6, 7
unfoldable pub scan : Order → List ℕ → ℕ → ℕ → ℕ → ℤ → ℤ → List ℕ → Outcome ℕ
scan o page w n op a b before =
    scanned
    (limit_fault w n then operator_fault op then room_fault (length before) (ceil n 8) then page_fault o page w n)
    n (λ i. holds op a b (pos (entry o page w i))) before

-- 1, 2, 4, 5, 6, 7
unfoldable pub unpack : Order → List ℕ → ℕ → ℕ → List ℕ → Outcome ℕ
unpack o page w n before =
    written
    (limit_fault w n then room_fault (length before) n then page_fault o page w n)
    (tabulate n (entry o page w)) before

-- the page that entries of width w make, unused bits 0
unfoldable pub packed : Order → ℕ → List ℕ → List ℕ
packed o w entries = tabulate (page_bytes w (length entries)) (entry_byte o w entries)

-- 1, 2, 8, 4
unfoldable pub pack : Order → List ℕ → ℕ → List ℕ → Outcome ℕ
pack o entries w before =
    written
    (limit_fault w (length entries) then large_fault w entries
    then room_fault (length before) (page_bytes w (length entries)))
    (packed o w entries) before
