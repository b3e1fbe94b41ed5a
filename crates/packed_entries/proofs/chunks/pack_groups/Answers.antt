-- `packed_entries::chunks::pack_groups` meets its contract: each turn lays a group's page behind those of the
-- groups before it.
use mathlib.Core.Path.{◌≡◌, refl, ap, ◌∙◌}
use mathlib.Core.List.{[]}
use Prim.Native.Nat.{ℕ, ◌+◌, ◌*◌}
use native.Mathlib.Nat.{div-le_self, zero-mul}
use native.Mathlib.Omega.{arith}
use lib.ListN.{take, length-drop}
use Rattle.rules.specs.Bits.{put}
use Rattle.rules.specs.Bits.Order.{low_first}
use Rattle.rules.specs.Horizontal.{packed}
use Rattle.words.specs.Entries.{place-within}
use Rattle.words.specs.Puts.{put-none, part_put, part_rest}
use Rattle.packed_entries.specs.GroupByGroup.{laid-behind}
use Rattle.packed_entries.specs.NoneTooLarge.{small_of}
use Rattle.packed_entries.specs.Packed.{packed_none}
use Rattle.packed_entries.proofs.chunks.pack_groups.Goals as goal

pub loop-g-init : goal.loop-g-init
loop-g-init c =
    let a = c.args in
    rw (packed_none low_first a.w [] (zero-mul a.w)) (put-none a.page.now 0)

pub pack_chunks-requires : goal.pack_chunks-requires
pack_chunks-requires c =
    let a = c.args in
    let l = c.loop-g in
    let k = c.at_once-k in
    let group = place-within a.w l.g a.m (omega arith) in (
      div-le_self 8 k.result,
      k.ensures.0,
      c.requires.0,
      k.ensures.1,
      rw k.ensures.2 (omega arith),
      c.requires.3,
      rw (k.ensures.2, part_rest, length-drop) (omega arith),
    )

pub loop-g-preserved : goal.loop-g-preserved
loop-g-preserved c =
    let a = c.args in
    let l = c.loop-g in
    let eight = c.at_once-k.ensures.2 in
    let group = place-within a.w l.g a.m (omega arith) in
    let more : 8 * l.g + 8 ≡ 8 * (l.g + 1) = omega arith in
    laid-behind a.page.now a.entries.now a.w l.g 8 (l.g * a.w) (omega arith)
    (small_of a.w a.entries.now c.requires.3) refl (omega arith) l.invariant
    (rw eight at (part_put l.page _ _ (l.g * a.w) c.pack_chunks.ensures))
    ∙ ap (λ (n : ℕ). put a.page.now 0 (packed low_first a.w (take n a.entries.now))) more
