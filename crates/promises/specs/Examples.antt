-- The examples of document 01, and more at the edges where a wrong definition would go unnoticed, as one table under
-- one statement. Most calls are lent a place more than they need, which keeps what it held.
use Rattle.std.specs.Prelude.{◌≡◌, refl, List, [], ◌∷◌, ◌++◌, map, ℕ, ◌%◌, ℤ, pos, negsuc, take, drop, replicate}
use Rattle.rules.specs.Bits.{tabulate, some_below, least_below, put, bit, word, bytes, joined, bit_of, bit_at, piece}
use Rattle.rules.specs.Bits.Order.{low_first}
use Rattle.rules.specs.Bitmap.{bitmap, tally}
use Rattle.rules.specs.Comparison.{between, operators, holds}
use Rattle.rules.specs.Answer.{◌then◌, limit_fault, operator_fault, room_fault, any_large, large_fault, accepted}
use Rattle.rules.specs.Answer.{refusal, answered, Outcome}
use Rattle.rules.specs.Answer.Outcome.{outcome}
use Rattle.rules.specs.Horizontal as Horizontal
use Rattle.rules.specs.Vertical as Vertical
use Rattle.rules.specs.Planes.{undecided, some_undecided, planes_taken, constants, compared}
use Rattle.rules.specs.declared.Compared.{Compared}
use Rattle.rules.specs.Varint.{number_at, reading}
use Rattle.rules.specs.Grammar.{cut_entries}
use Rattle.rules.specs.Runs as Runs
use Rattle.rules.specs.Shortest.{shortest}
use Rattle.rules.specs.RunWriter as RunWriter
use Rattle.rules.specs.Signed.{zigzag, zigzag_of, modulo, signed, gap}
use Rattle.rules.specs.Delta as Delta
use Rattle.rules.specs.DeltaWriter as DeltaWriter
use Rattle.rules.specs.declared.Next.{Next}
use Rattle.rules.specs.declared.Next.TheVariants.{Repeats, Packs}
use Rattle.rules.specs.Dictionary as Dictionary
use Rattle.rules.specs.Spans as Spans

-- what the definition gives, and what the document says: of signed entries, and unsigned ones as such
pub record Row : Type 0 where
  pub given : Outcome ℤ
  pub says : Outcome ℤ

abbrev pub unsigned : Outcome ℕ → Outcome ℤ
unsigned (outcome r places) = outcome r (map pos places)

infix 68 ◌is◌ ◌reads◌
abbrev pub ◌is◌ : Outcome ℕ → Outcome ℕ → Row
given is says = record { given = unsigned given; says = unsigned says }

abbrev pub ◌reads◌ : Outcome ℤ → Outcome ℤ → Row
given reads says = record { given = given; says = says }

-- that many places, each holding AA
abbrev pub lent : ℕ → List ℕ
lent places = replicate places 0xAA

-- code 0 with its number, and what the lent places hold
abbrev pub holding : {A : Type 0} → ℕ → List A → Outcome A
holding number places = outcome (accepted number) places

-- a refusal, which changes nothing
abbrev pub refusing : ℕ → List ℕ → Outcome ℕ
refusing code places = outcome (refusal code) places

-- the 64 bits of a group, and the number of planes taken
abbrev pub comparing : Compared → Outcome ℕ
comparing r = holding r.taken (r.bits ∷ [])

-- all 64 lanes
abbrev pub ones64 : ℕ
ones64 = 0xFFFFFFFFFFFFFFFF

-- how many entries the next run of the writer takes
abbrev pub taking : Next → Outcome ℕ
taking next = outcome (accepted (RunWriter.taken next)) []

abbrev pub entries3 : List ℕ
entries3 = 0 ∷ 1 ∷ 2 ∷ 3 ∷ 4 ∷ 5 ∷ 6 ∷ 7 ∷ []

abbrev pub page3 : List ℕ
page3 = 0x88 ∷ 0xC6 ∷ 0xFA ∷ []

abbrev pub entries7 : List ℕ
entries7 = 0 ∷ 0 ∷ 0 ∷ 0 ∷ 0 ∷ 0 ∷ 0 ∷ 0 ∷ 0 ∷ 127 ∷ []

abbrev pub page7 : List ℕ
page7 = 0x00 ∷ 0x00 ∷ 0x00 ∷ 0x00 ∷ 0x00 ∷ 0x00 ∷ 0x00 ∷ 0x80 ∷ 0x3F ∷ []

abbrev pub fives : List ℕ
fives = replicate 10 5

-- three fours, and then the entries 0 to 7 as a packed run
abbrev pub runs3 : List ℕ
runs3 = 0x06 ∷ 0x04 ∷ 0x03 ∷ page3

abbrev pub slope : List ℤ
slope = pos 7 ∷ pos 5 ∷ pos 3 ∷ pos 1 ∷ pos 2 ∷ pos 3 ∷ pos 4 ∷ pos 5 ∷ []

abbrev pub slope_page : List ℕ
slope_page = 0x80 ∷ 0x01 ∷ 0x04 ∷ 0x08 ∷ 0x0E ∷ 0x03 ∷ 0x02 ∷ 0x00 ∷ 0x00 ∷ 0x00 ∷ 0xC0 ∷ 0x3F ∷ replicate 6 0x00

-- the same with old numbers in the width bytes of its unneeded miniblocks; and so two entries 0, which have no bodies
abbrev pub slope_old_page : List ℕ
slope_old_page = take 7 slope_page ++ (0xFF ∷ 0x40 ∷ 0x07 ∷ drop 10 slope_page)

abbrev pub zeros_old_page : List ℕ
zeros_old_page = 0x80 ∷ 0x01 ∷ 0x04 ∷ 0x02 ∷ 0x00 ∷ 0x00 ∷ 0x00 ∷ 0xFF ∷ 0x40 ∷ 0x07 ∷ []

-- 2147483647 and -2147483648: from the greatest to the least is one step
abbrev pub ends : List ℤ
ends = pos 2147483647 ∷ negsuc 2147483647 ∷ []

abbrev pub ends_page : List ℕ
ends_page = 0x80 ∷ 0x01 ∷ 0x04 ∷ 0x02 ∷ 0xFE ∷ 0xFF ∷ 0xFF ∷ 0xFF ∷ 0x0F ∷ 0x02 ∷ 0x00 ∷ 0x00 ∷ 0x00 ∷ 0x00 ∷ []

-- -120, 0, 85
abbrev pub dict3 : List ℕ
dict3 = 0x88 ∷ 0xFF ∷ 0xFF ∷ 0xFF ∷ 0x00 ∷ 0x00 ∷ 0x00 ∷ 0x00 ∷ 0x55 ∷ 0x00 ∷ 0x00 ∷ 0x00 ∷ []

-- and 310
abbrev pub dict4 : List ℕ
dict4 = dict3 ++ (0x36 ∷ 0x01 ∷ 0x00 ∷ 0x00 ∷ [])

-- 70 entries, of which 5, 62 to 65 and 69 are selected
abbrev pub bits70 : List ℕ
bits70 = 0x20 ∷ replicate 6 0x00 ++ (0xC0 ∷ 0x23 ∷ [])

abbrev pub spans70 : List ℕ
spans70 = 5 ∷ 5 ∷ 62 ∷ 65 ∷ 69 ∷ 69 ∷ []

abbrev pub rows : List Row
rows =
    -- horizontal w 3, entries 0 to 7: 88 C6 FA, and back
    Horizontal.pack low_first entries3 3 (lent 4) is holding 3 (page3 ++ lent 1)
    ∷ Horizontal.unpack low_first page3 3 8 (lent 9) is holding 8 (entries3 ++ lent 1)
    -- less than 3: 07, count 3; less than 9: FF, 8; operator 6, a 5, b 2: 00, 0
    ∷ Horizontal.scan low_first page3 3 8 2 (pos 3) (pos 0) (lent 2) is holding 3 (0x07 ∷ lent 1)
    ∷ Horizontal.scan low_first page3 3 8 2 (pos 9) (pos 0) (lent 2) is holding 8 (0xFF ∷ lent 1)
    ∷ Horizontal.scan low_first page3 3 8 6 (pos 5) (pos 2) (lent 2) is holding 0 (0x00 ∷ lent 1)
    -- a byte too few is 5, one too many 6, an unused bit that is set 7
    ∷ Horizontal.scan low_first (0x88 ∷ 0xC6 ∷ []) 3 8 2 (pos 3) (pos 0) (lent 2) is refusing 5 (lent 2)
    ∷ Horizontal.scan low_first (page3 ++ lent 1) 3 8 2 (pos 3) (pos 0) (lent 2) is refusing 6 (lent 2)
    ∷ Horizontal.scan low_first (0x88 ∷ 0xC6 ∷ 0x80 ∷ []) 3 7 2 (pos 3) (pos 0) (lent 2) is refusing 7 (lent 2)
    -- w 0, n 5, no bytes, equal 0: 1F, 5
    ∷ Horizontal.scan low_first [] 0 5 0 (pos 0) (pos 0) (lent 2) is holding 5 (0x1F ∷ lent 1)
    -- w 7, n 10, all 0 but entry 9 = 127: seven 00, 80, 3F; equal 127: 00 02, 1
    ∷ Horizontal.pack low_first entries7 7 (lent 10) is holding 9 (page7 ++ lent 1)
    ∷ Horizontal.scan low_first page7 7 10 0 (pos 127) (pos 0) (lent 3) is holding 1 (0x00 ∷ 0x02 ∷ lent 1)
    -- vertical w 2, entries 1, 2, 3: words 6, 5, and back; greater or equal 2: 06, 2
    ∷ Vertical.pack (1 ∷ 2 ∷ 3 ∷ []) 2 (lent 3) is holding 2 (6 ∷ 5 ∷ lent 1)
    ∷ Vertical.unpack (6 ∷ 5 ∷ []) 2 3 (lent 4) is holding 3 (1 ∷ 2 ∷ 3 ∷ lent 1)
    ∷ Vertical.scan (6 ∷ 5 ∷ []) 2 3 5 (pos 2) (pos 0) (lent 2) is holding 2 (0x06 ∷ lent 1)
    -- the same group by itself, lanes 3 to 63 being 0: at least 2 takes both planes, lanes 1 and 2 having a 1 first
    ∷ comparing (compared (6 ∷ 5 ∷ []) 5 (pos 2) (pos 0)) is holding 2 (0x06 ∷ [])
    -- at most 0: a lane that equals the constant is undecided to the end
    ∷ comparing (compared (6 ∷ 5 ∷ []) 3 (pos 0) (pos 0)) is holding 2 (0xFFFFFFFFFFFFFFF8 ∷ [])
    -- constants outside 0 to 3 take no plane: at least 5, from -1 to 4, not from 6 to -3
    ∷ comparing (compared (6 ∷ 5 ∷ []) 5 (pos 5) (pos 2)) is holding 0 (0 ∷ [])
    ∷ comparing (compared (6 ∷ 5 ∷ []) 6 (negsuc 0) (pos 4)) is holding 0 (ones64 ∷ [])
    ∷ comparing (compared (6 ∷ 5 ∷ []) 7 (pos 6) (negsuc 2)) is holding 0 (ones64 ∷ [])
    -- 64 times 2: against 1 one plane is taken, whatever b is; against 1 and 2 both planes; from 1 to 0 one
    ∷ comparing (compared (ones64 ∷ 0 ∷ []) 5 (pos 1) (pos 2)) is holding 1 (ones64 ∷ [])
    ∷ comparing (compared (ones64 ∷ 0 ∷ []) 6 (pos 1) (pos 2)) is holding 2 (ones64 ∷ [])
    ∷ comparing (compared (ones64 ∷ 0 ∷ []) 6 (pos 1) (pos 0)) is holding 1 (0 ∷ [])
    -- all but lane 63 settled after a plane: the other is taken too
    ∷ comparing (compared (0x7FFFFFFFFFFFFFFF ∷ 0 ∷ []) 4 (pos 1) (pos 0)) is holding 2 (0x7FFFFFFFFFFFFFFF ∷ [])
    -- w 0 has no plane, and every entry is 0
    ∷ comparing (compared [] 0 (pos 0) (pos 0)) is holding 0 (ones64 ∷ [])
    -- runs w 3, n 10, 14 05: ten fives, and back; 94 00 05 reads the same
    ∷ Runs.unpack (0x14 ∷ 0x05 ∷ []) 3 10 (lent 11) is holding 10 (fives ++ lent 1)
    ∷ RunWriter.pack fives 3 (lent 3) is holding 2 (0x14 ∷ 0x05 ∷ lent 1)
    ∷ Runs.unpack (0x94 ∷ 0x00 ∷ 0x05 ∷ []) 3 10 (lent 11) is holding 10 (fives ++ lent 1)
    -- runs w 3, 06 04 03 88 C6 FA, n 11, greater than 3: 87 07, 7. With n 4 accepted; n 3 is 6; n 2 is 11; n 12 is 5
    ∷ Runs.scan runs3 3 11 4 (pos 3) (pos 0) (lent 3) is holding 7 (0x87 ∷ 0x07 ∷ lent 1)
    ∷ Runs.scan runs3 3 4 4 (pos 3) (pos 0) (lent 2) is holding 3 (0x07 ∷ lent 1)
    ∷ Runs.scan runs3 3 3 4 (pos 3) (pos 0) (lent 2) is refusing 6 (lent 2)
    ∷ Runs.scan runs3 3 2 4 (pos 3) (pos 0) (lent 2) is refusing 11 (lent 2)
    ∷ Runs.scan runs3 3 12 4 (pos 3) (pos 0) (lent 2) is refusing 5 (lent 2)
    -- 06 08, w 3, n 3 is 8; 00 05 is 10; FF FF FF FF 10 as a header is 9
    ∷ Runs.scan (0x06 ∷ 0x08 ∷ []) 3 3 4 (pos 3) (pos 0) (lent 2) is refusing 8 (lent 2)
    ∷ Runs.scan (0x00 ∷ 0x05 ∷ []) 3 3 4 (pos 3) (pos 0) (lent 2) is refusing 10 (lent 2)
    ∷ Runs.scan (0xFF ∷ 0xFF ∷ 0xFF ∷ 0xFF ∷ 0x10 ∷ []) 3 3 4 (pos 3) (pos 0) (lent 2) is refusing 9 (lent 2)
    -- a packed run may pass n by 7 and not by 8, a repeated one not at all; 11 comes before a body that is missing
    ∷ Runs.scan (0x05 ∷ []) 0 9 0 (pos 0) (pos 0) (lent 2) is holding 9 (0xFF ∷ 0x01 ∷ [])
    ∷ Runs.scan (0x05 ∷ []) 0 8 0 (pos 0) (pos 0) (lent 2) is refusing 11 (lent 2)
    ∷ Runs.scan (0x06 ∷ []) 3 2 0 (pos 0) (pos 0) (lent 2) is refusing 11 (lent 2)
    ∷ Runs.scan (0x05 ∷ []) 3 8 0 (pos 0) (pos 0) (lent 2) is refusing 11 (lent 2)
    -- eight equal entries are one repeated run, seven open a packed one; it closes at 63 groups
    ∷ taking (RunWriter.next_run (replicate 8 5 ++ (4 ∷ []))) is taking (Repeats 8)
    ∷ taking (RunWriter.next_run (replicate 7 5 ++ (4 ∷ []))) is taking (Packs 1)
    ∷ taking (RunWriter.next_run (tabulate 512 (λ i. i % 2))) is taking (Packs 63)
    -- delta of 7, 5, 3, 1, 2, 3, 4, 5: 80 01 04 08 0E 03 02 00 00 00 C0 3F and six 00; from 2 to 4: 74, 4
    ∷ DeltaWriter.pack 32 slope (lent 19) is holding 18 (slope_page ++ lent 1)
    ∷ Delta.unpack 32 slope_page 8 (replicate 9 (pos 0)) reads holding 8 (slope ++ (pos 0 ∷ []))
    ∷ Delta.scan 32 slope_page 8 6 (pos 2) (pos 4) (lent 2) is holding 4 (0x74 ∷ lent 1)
    -- a body cut short is 5, a byte left over 6, another count 13
    ∷ Delta.scan 32 (take 17 slope_page) 8 6 (pos 2) (pos 4) (lent 2) is refusing 5 (lent 2)
    ∷ Delta.scan 32 (slope_page ++ lent 1) 8 6 (pos 2) (pos 4) (lent 2) is refusing 6 (lent 2)
    ∷ Delta.scan 32 slope_page 7 6 (pos 2) (pos 4) (lent 2) is refusing 13 (lent 2)
    -- block size 129 is 12, also with another count, and so is 32,768; a number of five bytes above 0F is 9
    ∷ Delta.scan 32 (0x81 ∷ 0x01 ∷ 0x04 ∷ 0x08 ∷ 0x0E ∷ []) 7 6 (pos 2) (pos 4) (lent 2) is refusing 12 (lent 2)
    ∷ Delta.scan 32 (0x80 ∷ 0x80 ∷ 0x02 ∷ 0x04 ∷ 0x08 ∷ 0x0E ∷ []) 8 6 (pos 2) (pos 4) (lent 2) is refusing 12
    (lent 2)
    ∷ Delta.scan 32 (0x80 ∷ 0x01 ∷ 0x04 ∷ 0x01 ∷ 0xFF ∷ 0xFF ∷ 0xFF ∷ 0xFF ∷ 0x10 ∷ []) 1 0 (pos 0) (pos 0) (lent 2)
    is refusing 9 (lent 2)
    -- a needed width of 33 is 1, also where the page ends behind it
    ∷ Delta.scan 32 (0x80 ∷ 0x01 ∷ 0x04 ∷ 0x02 ∷ 0x00 ∷ 0x00 ∷ 0x21 ∷ []) 2 0 (pos 0) (pos 0) (lent 2)
    is refusing 1 (lent 2)
    -- old numbers FF 40 07 as unneeded widths: the same entries; one of them missing is 5, also where no body follows
    ∷ Delta.scan 32 slope_old_page 8 6 (pos 2) (pos 4) (lent 2) is holding 4 (0x74 ∷ lent 1)
    ∷ Delta.unpack 32 slope_old_page 8 (replicate 9 (pos 0)) reads holding 8 (slope ++ (pos 0 ∷ []))
    ∷ Delta.scan 32 zeros_old_page 2 0 (pos 0) (pos 0) (lent 2) is holding 2 (0x03 ∷ lent 1)
    ∷ Delta.scan 32 (take 9 zeros_old_page) 2 0 (pos 0) (pos 0) (lent 2) is refusing 5 (lent 2)
    -- one miniblock of 128 entries of width 1, its body of 16 bytes
    ∷ Delta.scan 32 (0x80 ∷ 0x01 ∷ 0x01 ∷ 0x03 ∷ 0x00 ∷ 0x00 ∷ 0x01 ∷ 0x03 ∷ replicate 15 0x00) 3 5 (pos 1) (pos 0)
    (lent 2) is holding 2 (0x06 ∷ lent 1)
    -- delta of 2147483647, -2147483648: 80 01 04 02 FE FF FF FF 0F 02 00 00 00 00; less than 0: 02, 1
    ∷ DeltaWriter.pack 32 ends (lent 15) is holding 14 (ends_page ++ lent 1)
    ∷ Delta.unpack 32 ends_page 2 (replicate 2 (pos 0)) reads holding 2 ends
    ∷ Delta.scan 32 ends_page 2 2 (pos 0) (pos 0) (lent 2) is holding 1 (0x02 ∷ lent 1)
    -- dictionary -120, 0, 85, 310, page 02 06 03, n 3: three times 310; without the 310: 15, but 6 with a byte left
    -- over
    ∷ Dictionary.scan dict4 (0x02 ∷ 0x06 ∷ 0x03 ∷ []) 3 0 (pos 310) (pos 0) (lent 2) is holding 3 (0x07 ∷ lent 1)
    ∷ Dictionary.scan dict3 (0x02 ∷ 0x06 ∷ 0x03 ∷ []) 3 0 (pos 310) (pos 0) (lent 2) is refusing 15 (lent 2)
    ∷ Dictionary.scan dict3 (0x02 ∷ 0x06 ∷ 0x03 ∷ 0x00 ∷ []) 3 0 (pos 310) (pos 0) (lent 2) is refusing 6 (lent 2)
    -- an empty dictionary has no value for an index: 15, but a byte left over is still 6
    ∷ Dictionary.scan [] (0x00 ∷ 0x06 ∷ []) 3 0 (pos 0) (pos 0) (lent 2) is refusing 15 (lent 2)
    ∷ Dictionary.scan [] (0x00 ∷ 0x06 ∷ 0x00 ∷ []) 3 0 (pos 0) (pos 0) (lent 2) is refusing 6 (lent 2)
    -- the first value is below 0; values that do not ascend are 14
    ∷ Dictionary.scan dict4 (0x02 ∷ 0x06 ∷ 0x00 ∷ []) 3 2 (pos 0) (pos 0) (lent 2) is holding 3 (0x07 ∷ lent 1)
    ∷ Dictionary.scan (drop 4 dict3 ++ dict3) (0x02 ∷ 0x06 ∷ 0x00 ∷ []) 3 2 (pos 0) (pos 0) (lent 2)
    is refusing 14 (lent 2)
    -- spans 5 to 5, 62 to 65 and 69 to 69 of 70 entries: over a byte and a word, and up to the last entry; and back
    ∷ Spans.from_bitmap bits70 70 (lent 7) is holding 3 (spans70 ++ lent 1)
    ∷ Spans.to_bitmap spans70 70 (lent 10) is holding 6 (bits70 ++ lent 1)
    -- bits past n are not read, nor later bytes; a place too few is 4, a short bitmap 5 before that
    ∷ Spans.from_bitmap (0xFC ∷ 0xFF ∷ []) 6 (lent 3) is holding 1 (2 ∷ 5 ∷ lent 1)
    ∷ Spans.from_bitmap (0xFC ∷ 0xFF ∷ []) 6 (lent 1) is refusing 4 (lent 1)
    ∷ Spans.from_bitmap (0xFC ∷ []) 9 (lent 1) is refusing 5 (lent 1)
    -- of no entries there are none
    ∷ Spans.from_bitmap (0xFF ∷ []) 0 [] is holding 0 []
    ∷ Spans.to_bitmap [] 0 (lent 1) is holding 0 (lent 1)
    ∷ Spans.to_bitmap (0 ∷ 0 ∷ []) 0 (lent 1) is refusing 18 (lent 1)
    -- 0 to 2 and 4 to 5 of six entries; 0 to 2 and 3 to 5 touch: 18
    ∷ Spans.to_bitmap (0 ∷ 2 ∷ 4 ∷ 5 ∷ []) 6 (lent 2) is holding 5 (0x37 ∷ lent 1)
    ∷ Spans.to_bitmap (0 ∷ 2 ∷ 3 ∷ 5 ∷ []) 6 (lent 2) is refusing 18 (lent 2)
    -- so is an end that is n, one before its start, and a list that goes back, also where 32 bits would turn over
    ∷ Spans.to_bitmap (4 ∷ 6 ∷ []) 6 (lent 2) is refusing 18 (lent 2)
    ∷ Spans.to_bitmap (3 ∷ 2 ∷ []) 6 (lent 2) is refusing 18 (lent 2)
    ∷ Spans.to_bitmap (4 ∷ 5 ∷ 0 ∷ 2 ∷ []) 6 (lent 2) is refusing 18 (lent 2)
    ∷ Spans.to_bitmap (0 ∷ 4294967295 ∷ 1 ∷ 2 ∷ []) 6 (lent 2) is refusing 18 (lent 2)
    -- 2 comes before 5, an odd list is 5 before 4, and 4 comes before 18
    ∷ Spans.from_bitmap [] 16385 [] is refusing 2 []
    ∷ Spans.to_bitmap (3 ∷ []) 16385 [] is refusing 2 []
    ∷ Spans.to_bitmap (3 ∷ 2 ∷ 4 ∷ []) 6 [] is refusing 5 []
    ∷ Spans.to_bitmap (3 ∷ 2 ∷ []) 6 [] is refusing 4 []
    ∷ []

-- each definition gives what the document says
pub examples : map (λ row. row.given) rows ≡ map (λ row. row.says) rows
unfolding Horizontal.scan Horizontal.unpack Horizontal.pack Horizontal.page_fault Horizontal.packed
    Vertical.scan Vertical.unpack Vertical.pack Vertical.page_fault Vertical.packed Vertical.lane Vertical.plane
    undecided some_undecided planes_taken constants compared least_below
    Runs.scan Runs.unpack Runs.read Runs.repeated_at Runs.packed_at cut_entries number_at
    RunWriter.pack RunWriter.stream RunWriter.run_bytes RunWriter.next_run RunWriter.groups_of RunWriter.stretch
    RunWriter.equal_to shortest
    Delta.scan Delta.unpack Delta.read Delta.head_at Delta.shaped Delta.block_at Delta.laid_at Delta.needed
    Delta.body_bytes
    Delta.mini_deltas Delta.entry_of reading zigzag zigzag_of modulo signed gap
    DeltaWriter.pack DeltaWriter.page DeltaWriter.block DeltaWriter.width_of DeltaWriter.wide_fault
    Dictionary.scan Dictionary.value Dictionary.unordered Dictionary.dictionary_fault Dictionary.indexes
    Dictionary.index_at Dictionary.index_fault Dictionary.column_fault
    Spans.selected Spans.begins Spans.ends Spans.edges Spans.spans Spans.from_bitmap Spans.covered Spans.misplaced
    Spans.to_bitmap
    any_large large_fault ◌then◌ limit_fault operator_fault room_fault answered
    bitmap tally between operators holds tabulate some_below put bit word bytes joined bit_of bit_at piece
examples = refl
