-- `packed_select::select` meets its contract: the groups within the page, those at its end, and the last byte.
use mathlib.Core.Path.{◌≡◌, refl, ap, ◌∙◌}
use Prim.Native.Nat.{◌+◌, ◌-◌, ◌/◌}
use native.Mathlib.Omega.{arith}
use lib.ListN.{length, take, drop, length-drop}
use Rattle.words.specs.Puts.{part_rest}
use Rattle.compare.specs.Range.{ranged}
use Rattle.packed_select.specs.TwoPieces.{page_le, tail_small, all_selected}
use Rattle.packed_select.proofs.select.Goals as goal

pub front-m-requires : goal.front-m-requires
front-m-requires c =
    let a = c.args in
    let q = (a.n + 7) / 8 in
    let len = length a.page.now in
    omega (arith, page_le a.n a.w q len refl c.requires.2 c.requires.3)

pub tail-requires : goal.tail-requires
tail-requires c =
    let a = c.args in
    let q = (a.n + 7) / 8 in
    let len = length a.page.now in
    let m = c.front-m.result in
    let l = c.front-m.new.bitmap in
    let part : length (take (length l - m) (drop m l)) ≡ length l - m = ap length (part_rest l m) ∙ length-drop m l in
    omega (
      arith,
      tail_small a.n a.w q len refl c.requires.2 c.requires.3 m (omega arith) (omega arith) (omega arith),
    )

pub returns : goal.returns
returns c =
    let a = c.args in
    let front = c.front-m in
    all_selected a.bitmap.now a.page.now a.w (ranged a.range) _ _ _ a.n front.result
    ((a.n + 7) / 8)
    refl (omega arith) (omega arith) front.ensures.written
    c.tail.ensures c.trim.ensures
