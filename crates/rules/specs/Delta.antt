-- Delta pages of signed entries as they are read, over the width W of the kind: 32, and later 64.
use Rattle.std.specs.Prelude.{Bool, true, false, cond, ◌&&◌, List, [], ◌∷◌, ◌++◌, ℕ, zero, suc, ◌+◌, ◌*◌, ◌-◌, ◌/◌, ◌%◌, min, ℤ, pos, ◌+ℤ◌, ltb, leb, eqb, length, take, drop, get_or, Result, Ok, Err}
use Rattle.rules.specs.Bits.{ceil, tabulate, entry}
use Rattle.rules.specs.Bits.Order.{low_first}
use Rattle.rules.specs.Comparison.{holds}
use Rattle.rules.specs.Answer.{◌then◌, count_fault, operator_fault, room_fault, Outcome, scanned, written}
use Rattle.rules.specs.Varint.{number_at, reading}
use Rattle.rules.specs.Signed.{zigzag, wrapped}
use Rattle.rules.specs.Refusals.{code}
use Rattle.rules.specs.declared.Refusal.{Refusal}
use Rattle.rules.specs.declared.Head as GivenHead
use Rattle.rules.specs.declared.Block as GivenBlock

-- ---- the header

-- block size, miniblocks per block, the first value's number and the next place, or the code of what is wrong
pub data Head : Type 0 where
  Opened : ℕ → ℕ → ℕ → ℕ → Head
  Unopened : ℕ → Head

-- a header as it is given, or its refusal by its number
abbrev pub head_of : Result GivenHead.Head Refusal → Head
head_of (Ok head) = Opened head.size head.minis head.first head.next
head_of (Err r) = Unopened (code r)

-- block size a multiple of 128, from 128 to 16,384; the miniblock count at least 1, a divisor of it; the quotient a
-- multiple of 32
unfoldable pub shaped : ℕ → ℕ → Bool
shaped size minis =
    leb 128 size
    && (leb size 16384
    && (eqb (size % 128) 0 && (ltb 0 minis && (eqb (size % minis) 0 && eqb (size / minis % 32) 0))))

-- block size, miniblocks per block, count, first value: all four are read, then 12, then 13
unfoldable pub head_at : ℕ → ℕ → List ℕ → Head
head_at W n page =
    reading Unopened (number_at 32 page 0) (λ size p.
    reading Unopened (number_at 32 page p) (λ minis q.
    reading Unopened (number_at 32 page q) (λ count r.
    reading Unopened (number_at W page r) (λ first next.
    cond (shaped size minis) (cond (eqb count n) (Opened size minis first next) (Unopened 13)) (Unopened 12)))))

-- ---- a block, where `left` deltas are still to come

-- the smallest delta's number, the place of its width bytes and the next block's place, or the code of what is wrong
pub data Block : Type 0 where
  Laid : ℕ → ℕ → ℕ → Block
  Unlaid : ℕ → Block

-- a block as it is given, or its refusal by its number
abbrev pub block_of : Result GivenBlock.Block Refusal → Block
block_of (Ok block) = Laid block.least block.widths block.next
block_of (Err r) = Unlaid (code r)

-- how many of its miniblocks, of m entries each, hold one of them
unfoldable pub needed : ℕ → ℕ → ℕ → ℕ
needed minis m left = min minis (ceil left m)

-- the width bytes first to last: 5 if missing, else 1 for a needed one above W; an unneeded one may be any number
abbrev pub width_fault : ℕ → ℕ → ℕ → List ℕ → ℕ
width_fault W zero need s = 0
width_fault W (suc all) need [] = 5
width_fault W (suc all) zero (b ∷ s) = width_fault W all zero s
width_fault W (suc all) (suc need) (b ∷ s) = cond (ltb W b) 1 (width_fault W all need s)

abbrev pub sum : List ℕ → ℕ
sum [] = 0
sum (b ∷ s) = b + sum s

-- the bytes of the needed miniblocks' bodies, each full: 8 entries of width w are w bytes
unfoldable pub body_bytes : ℕ → ℕ → List ℕ → ℕ → ℕ
body_bytes need m page widths = m / 8 * sum (take need (drop widths page))

-- the smallest delta h, then the width bytes, which begin at `widths` and have the given fault, then the bodies (5)
unfoldable pub laid_at : ℕ → ℕ → ℕ → ℕ → List ℕ → ℕ → ℕ → Block
laid_at h minis need m page widths zero =
    cond (ltb (length page - (widths + minis)) (body_bytes need m page widths)) (Unlaid 5)
    (Laid h widths (widths + minis + body_bytes need m page widths))
laid_at h minis need m page widths (suc code) = Unlaid (suc code)

unfoldable pub block_at : ℕ → ℕ → ℕ → ℕ → List ℕ → ℕ → Block
block_at W minis need m page at =
    reading Unlaid (number_at W page at)
    (λ h widths. laid_at h minis need m page widths (width_fault W minis need (drop widths page)))

-- the m deltas of a miniblock of width w whose body begins at `body`, packed horizontally: smallest delta plus
-- packed number
unfoldable pub mini_deltas : ℕ → ℤ → List ℕ → ℕ → ℕ → List ℤ
mini_deltas m least page body w = tabulate m (λ j. least +ℤ pos (entry low_first (drop body page) w j))

-- those of the needed miniblocks, whose width bytes begin at `widths` and whose bodies at `body`
abbrev pub block_deltas : ℕ → ℕ → ℤ → List ℕ → ℕ → ℕ → List ℤ
block_deltas zero m least page widths body = []
block_deltas (suc need) m least page widths body =
    mini_deltas m least page body (get_or page widths 0)
    ++ block_deltas need m least page (suc widths) (body + m / 8 * get_or page widths 0)

-- ---- the blocks

-- the deltas of miniblocks laid end to end, filling too, or the first fault
pub data Deltas : Type 0 where
  good : List ℤ → Deltas
  bad : ℕ → Deltas

abbrev pub also : List ℤ → Deltas → Deltas
also ds (good es) = good (ds ++ es)
also ds (bad code) = bad code

-- 6 where something is left over
abbrev pub at_end : Bool → Deltas
at_end true = bad 6
at_end false = good []

-- a block, and what follows it: `onward` reads on with the deltas still to come, at the next place
abbrev pub after : ℕ → ℕ → ℕ → List ℕ → (ℕ → ℕ → Deltas) → Block → Deltas
after size minis left page onward (Unlaid code) = bad code
after size minis left page onward (Laid h widths next) =
    also (block_deltas (needed minis (size / minis) left) (size / minis) (zigzag h) page widths (widths + minis))
    (onward (left - size) next)

-- each block holds a delta or more, so as many turns as deltas are enough
abbrev pub blocks_at : ℕ → ℕ → ℕ → ℕ → ℕ → List ℕ → ℕ → Deltas
blocks_at W size minis zero zero page at = at_end (ltb at (length page))
blocks_at W size minis zero (suc left) page at = bad 5
blocks_at W size minis (suc turns) zero page at = at_end (ltb at (length page))
blocks_at W size minis (suc turns) (suc left) page at =
    after size minis (suc left) page (λ l next. blocks_at W size minis turns l page next)
    (block_at W minis (needed minis (size / minis) (suc left)) (size / minis) page at)

-- ---- the page

-- what a page holds: its first value and its deltas, or its first fault
pub data Page : Type 0 where
  holding : ℤ → List ℤ → Page
  faulted : ℕ → Page

abbrev pub begun : ℤ → Deltas → Page
begun first (good ds) = holding first ds
begun first (bad code) = faulted code

-- n entries have n - 1 deltas, and none have none
abbrev pub opened : ℕ → ℕ → List ℕ → Head → Page
opened W n page (Unopened code) = faulted code
opened W n page (Opened size minis first at) = begun (zigzag first) (blocks_at W size minis (n - 1) (n - 1) page at)

unfoldable pub read : ℕ → ℕ → List ℕ → Page
read W n page = opened W n page (head_at W n page)

abbrev pub page_fault : Page → ℕ
page_fault (holding first ds) = 0
page_fault (faulted code) = code

-- entry 0 is the first value; each later entry is the one before plus its delta, wrapping in W bits
unfoldable pub entry_of : ℕ → ℤ → List ℤ → ℕ → ℤ
entry_of W first ds zero = first
entry_of W first ds (suc i) = wrapped W (entry_of W first ds i +ℤ get_or ds i (pos 0))

abbrev pub page_entry : ℕ → Page → ℕ → ℤ
page_entry W (holding first ds) i = entry_of W first ds i
page_entry W (faulted code) i = pos 0

-- ---- the calls: 2, 3, 4, then the first fault in reading order

unfoldable pub scan : ℕ → List ℕ → ℕ → ℕ → ℤ → ℤ → List ℕ → Outcome ℕ
scan W page n op a b before =
    scanned
    (count_fault n then operator_fault op then room_fault (length before) (ceil n 8) then page_fault (read W n page))
    n (λ i. holds op a b (page_entry W (read W n page) i)) before

unfoldable pub unpack : ℕ → List ℕ → ℕ → List ℤ → Outcome ℤ
unpack W page n before =
    written
    (count_fault n then room_fault (length before) n then page_fault (read W n page))
    (tabulate n (page_entry W (read W n page))) before
