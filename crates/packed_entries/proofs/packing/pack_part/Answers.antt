-- `packed_entries::packing::pack_part` meets its contract: the part of the entries from p on goes into the part of
-- the page from `from` on.
use mathlib.Core.Path.{◌≡◌, ap, ◌∙◌}
use Prim.Native.Nat.{ℕ, ◌+◌, ◌-◌}
use native.Mathlib.Omega.{arith}
use lib.ListN.{length, take, drop, length-drop}
use lib.Seq.{length-take-le}
use Rattle.rules.specs.Bits.{put}
use Rattle.rules.specs.Bits.Order.{low_first}
use Rattle.rules.specs.Horizontal.{packed}
use Rattle.words.specs.Puts.{part_put, part_rest}
use Rattle.packed_entries.proofs.packing.pack_part.Goals as goal

pub pack-requires : goal.pack-requires
pack-requires c =
    let a = c.args in
    let s = a.entries.now in
    let m : a.p + a.m - a.p ≡ a.m = omega arith in
    let size : length (take a.m (drop a.p s)) ≡ a.m =
    length-take-le a.m (drop a.p s) (rw length-drop (omega arith)) in
    rw m (
      omega arith,
      omega arith,
      c.requires.3,
      rw (size, part_rest, length-drop) (omega arith),
    )

pub returns : goal.returns
returns c =
    let a = c.args in
    let m : a.p + a.m - a.p ≡ a.m = omega arith in
    part_put a.page.now _ _ a.from c.pack.ensures
    ∙ ap
    (λ (k : ℕ). put a.page.now a.from (packed low_first a.w (take k (drop a.p a.entries.now))))
    m
