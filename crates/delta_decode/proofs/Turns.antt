-- What a turn over a page's blocks, or over a block's miniblocks, needs of the page.
use Rattle.std.specs.Prelude.{◌≡◌, List, ℕ, ◌+◌, ◌-◌, ◌*◌, ◌/◌, ◌≤◌, ◌<◌, ℤ, length, get_or, take, drop}
use Rattle.std.proofs.Common.{sym, ap, ◌∙◌, arith, length-take-le, length-drop, get_or-take, get_or-drop}
use Rattle.rules.specs.Delta.{needed, block_at}
use Rattle.rules.specs.Delta.{Block}
use Rattle.delta_read.specs.Shapes.{Shape}
use Rattle.delta_read.specs.BlockByBlock.{block_here}
use Rattle.delta_decode.specs.declared.miniblocks.Miniblocks.{Miniblocks}
use Rattle.delta_decode.specs.MiniblockDeltas.{Judged, Turn, width_of, wanted_here, body-ends}
use Rattle.delta_decode.specs.PageEntries.{Pass, few}

-- the width bytes of the needed miniblocks
abbrev pub widths_of : Miniblocks → List ℕ → List ℕ
widths_of b page = take (b.widths + b.need - b.widths) (drop b.widths page)

pub all_widths : {page : List ℕ} {b : Miniblocks} {room : ℕ} → Judged 32 page b room
    → length (widths_of b page) ≡ b.need
all_widths {page} {b} h =
    let size : b.widths + b.need - b.widths ≡ b.need = omega arith in
    rw size (length-take-le b.need (drop b.widths page) (simp length-drop (omega (arith, h.there))))

module _ {O : Type 0} {write : ℕ → ℕ → (ℕ → ℕ) → O → O} {page : List ℕ} where
  -- in a block's turn: a miniblock is still to come, an entry too, and the body ends on the page
  pub low : {b : Miniblocks} {from room i q at done x : ℕ} {before out : O} → Judged 32 page b room
      → q < length (widths_of b page) → Turn write 32 page b from room i before q at done x out
      → (get_or (widths_of b page) q 0 ≡ width_of page b q) × (q < b.need) × (done < room)
      × (at + b.size / 8 * get_or (widths_of b page) q 0 ≤ length page) × (get_or (widths_of b page) q 0 ≤ 32)
  low {b} {from} {room} {i} {q} h some c =
      let more : q < b.need = omega (arith, all_widths h) in
      let here : get_or (widths_of b page) q 0 ≡ width_of page b q =
      get_or-take (b.widths + b.need - b.widths) (drop b.widths page) q 0 (omega arith)
      ∙ get_or-drop b.widths page q 0 in
      let ends = body-ends _ _ _ _ _ _ _ _ h more c in
      let narrow = h.narrow _ more in
      (here, more, wanted_here _ _ _ _ _ _ _ _ h more c, rw here ends, rw here narrow)

  -- in a page's turn: the entries passed then are not many
  pub bounded : {size minis n from left at i x need : ℕ} {ds : List ℤ} {before out : O} → Shape size minis → 0 < left
      → Pass write 32 page size minis n from ds before left at i x out → need ≡ needed minis (size / minis) left
      → n ≤ 16384 → i + need * (size / minis) ≤ 32768
  bounded sh some c e short = rw e (omega (arith, few _ 32 _ _ _ _ _ _ _ sh some c, short))

-- the block that was read next
pub block_is : (size minis left : ℕ) (page : List ℕ) (at : ℕ) {need : ℕ} {block : Block}
    → need ≡ needed minis (size / minis) left → block ≡ block_at 32 minis need (size / minis) page at
    → block_here 32 size minis left page at ≡ block
block_is size minis left page at e f =
    ap (λ need. block_at 32 minis need (size / minis) page at) (sym e) ∙ sym f
