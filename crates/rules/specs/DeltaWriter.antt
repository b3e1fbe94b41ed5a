-- The writer of delta pages, over the width W of the kind: block size 128, 4 miniblocks, shortest numbers.
use Rattle.std.specs.Prelude.{Bool, false, cond, ◌||◌, List, [], ◌∷◌, ◌++◌, map, ℕ, zero, suc, ◌/◌, max, eqb, ℤ, pos, ◌-ℤ◌, length, take, drop, get_or}
use Rattle.std.specs.Int.Signed.{le_z}
use Rattle.rules.specs.Bits.{tabulate}
use Rattle.rules.specs.Bits.Order.{low_first}
use Rattle.rules.specs.Answer.{faulty, ◌then◌, count_fault, any_large, room_fault, Outcome, written}
use Rattle.rules.specs.Horizontal.{packed}
use Rattle.rules.specs.Shortest.{shortest}
use Rattle.rules.specs.Signed.{zigzag_of, wrapped, gap}

-- the wrapped deltas of entries, each from the one before
abbrev pub deltas : ℕ → List ℤ → List ℤ
deltas W [] = []
deltas W (x ∷ []) = []
deltas W (x ∷ y ∷ s) = wrapped W (y -ℤ x) ∷ deltas W (y ∷ s)

-- the signed least of some deltas
abbrev pub least_from : ℤ → List ℤ → ℤ
least_from z [] = z
least_from z (d ∷ ds) = least_from (cond (le_z z d) z d) ds

abbrev pub least : List ℤ → ℤ
least [] = pos 0
least (d ∷ ds) = least_from d ds

-- the packed numbers of a block's deltas: how far each is above the least
abbrev pub above_least : List ℤ → List ℕ
above_least ds = map (λ d. gap d (least ds)) ds

-- the least width that holds a number, and the least for all of a miniblock; W at most
unfoldable pub width_of : ℕ → ℕ → ℕ
width_of zero x = 0
width_of (suc W) x = cond (eqb x 0) 0 (suc (width_of W (x / 2)))

abbrev pub width_for : ℕ → List ℕ → ℕ
width_for W [] = 0
width_for W (x ∷ xs) = max (width_of W x) (width_for W xs)

-- the 32 packed numbers of a miniblock, what is not there filled with 0
abbrev pub filled : List ℕ → List ℕ
filled xs = tabulate 32 (λ i. get_or xs i 0)

-- the width bytes of some miniblocks, and their bodies, packed horizontally; a miniblock of no deltas has width 0
-- and no body
abbrev pub widths : ℕ → ℕ → List ℕ → List ℕ
widths zero W xs = []
widths (suc minis) W xs = width_for W (take 32 xs) ∷ widths minis W (drop 32 xs)

abbrev pub bodies : ℕ → ℕ → List ℕ → List ℕ
bodies zero W xs = []
bodies (suc minis) W xs =
    packed low_first (width_for W (take 32 xs)) (filled (take 32 xs)) ++ bodies minis W (drop 32 xs)

-- a block of at most 128 deltas
unfoldable pub block : ℕ → List ℤ → List ℕ
block W ds = shortest (zigzag_of (least ds)) ++ widths 4 W (above_least ds) ++ bodies 4 W (above_least ds)

-- each block takes a delta or more, so as many turns as deltas are enough
abbrev pub blocks : ℕ → ℕ → List ℤ → List ℕ
blocks W zero ds = []
blocks W (suc turns) [] = []
blocks W (suc turns) (d ∷ ds) = block W (take 128 (d ∷ ds)) ++ blocks W turns (drop 128 (d ∷ ds))

-- block size, miniblocks per block, count, first value (0 for no entries), blocks
unfoldable pub page : ℕ → List ℤ → List ℕ
page W entries =
    shortest 128 ++ shortest 4 ++ shortest (length entries) ++ shortest (zigzag_of (get_or entries 0 (pos 0)))
    ++ blocks W (length entries) (deltas W entries)

-- does some miniblock need more than W bits
abbrev pub any_wide : ℕ → ℕ → List ℤ → Bool
any_wide W zero ds = false
any_wide W (suc turns) [] = false
any_wide W (suc turns) (d ∷ ds) = any_large W (above_least (take 128 (d ∷ ds))) || any_wide W turns (drop 128 (d ∷ ds))

-- 17
unfoldable pub wide_fault : ℕ → List ℤ → ℕ
wide_fault W entries = faulty (any_wide W (length entries) (deltas W entries)) 17

-- 2, 17, 4
unfoldable pub pack : ℕ → List ℤ → List ℕ → Outcome ℕ
pack W entries before =
    written
    (count_fault (length entries) then wide_fault W entries then room_fault (length before) (length (page W entries)))
    (page W entries) before
