-- The writer of run streams: how it cuts a list of entries into runs, and the bytes of each.
use Rattle.std.specs.Prelude.{cond, List, [], ◌∷◌, ◌++◌, ℕ, zero, suc, ◌+◌, ◌*◌, leb, eqb, length, drop, get_or}
use Rattle.rules.specs.Bits.{ceil, tabulate, bytes}
use Rattle.rules.specs.Bits.Order.{low_first}
use Rattle.rules.specs.Answer.{◌then◌, limit_fault, large_fault, room_fault, Outcome, written}
use Rattle.rules.specs.Horizontal.{packed}
use Rattle.rules.specs.Shortest.{shortest}
use Rattle.rules.specs.declared.Next.{Next}
use Rattle.rules.specs.declared.Next.TheVariants.{Repeats, Packs}

-- ---- the next run, from the entries that are not yet written

-- how many of them, from the first on, are x
unfoldable pub equal_to : ℕ → List ℕ → ℕ
equal_to x [] = 0
equal_to x (y ∷ s) = cond (eqb y x) (suc (equal_to x s)) 0

-- the longest stretch of equal entries, from the first on
unfoldable pub stretch : List ℕ → ℕ
stretch [] = 0
stretch (x ∷ s) = suc (equal_to x s)

-- how many more groups of 8 an open packed run takes, `more` at most: it closes at a repeated run, or at the end
unfoldable pub groups_of : ℕ → List ℕ → ℕ
groups_of zero s = 0
groups_of (suc more) [] = 0
groups_of (suc more) (x ∷ s) = cond (leb 8 (stretch (x ∷ s))) 0 (suc (groups_of more (drop 8 (x ∷ s))))

-- a stretch of 8 or more is one repeated run, else a packed run opens, of 63 groups at most
unfoldable pub next_run : List ℕ → Next
next_run s = cond (leb 8 (stretch s)) (Repeats (stretch s)) (Packs (groups_of 63 s))

-- how many entries a run takes, 8 a group
abbrev pub taken : Next → ℕ
taken (Repeats count) = count
taken (Packs groups) = 8 * groups

-- the entries of its groups; past the end of the list they are filled with 0
abbrev pub filled : ℕ → List ℕ → List ℕ
filled groups s = tabulate (8 * groups) (λ i. get_or s i 0)

-- its bytes: the header is spelled shortest
unfoldable pub run_bytes : ℕ → List ℕ → Next → List ℕ
run_bytes w s (Repeats count) = shortest (2 * count) ++ bytes (ceil w 8) (get_or s 0 0)
run_bytes w s (Packs groups) = shortest (2 * groups + 1) ++ packed low_first w (filled groups s)

-- ---- the stream

-- each run takes an entry or more, so as many turns as entries are enough
abbrev pub stream_by : ℕ → ℕ → List ℕ → List ℕ
stream_by w zero s = []
stream_by w (suc turns) [] = []
stream_by w (suc turns) (x ∷ s) =
    run_bytes w (x ∷ s) (next_run (x ∷ s)) ++ stream_by w turns (drop (taken (next_run (x ∷ s))) (x ∷ s))

unfoldable pub stream : ℕ → List ℕ → List ℕ
stream w entries = stream_by w (length entries) entries

-- 1, 2, 8, 4
unfoldable pub pack : List ℕ → ℕ → List ℕ → Outcome ℕ
pack entries w before =
    written
    (limit_fault w (length entries) then large_fault w entries
    then room_fault (length before) (length (stream w entries)))
    (stream w entries) before
