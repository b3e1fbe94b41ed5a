-- `packed_entries::chunks::pack_groups` meets its contract: each turn lays a group's page behind those of the
-- groups before it.
use mathlib.Core.Path.{◌≡◌}
use Prim.Native.Nat.{◌*◌}
use lib.ListN.{take}
use Rattle.rules.specs.Bits.{put}
use Rattle.rules.specs.Bits.Order.{low_first}
use Rattle.rules.specs.Horizontal.{packed}
use Rattle.packed_entries.proofs.chunks.pack_groups.Given as goal

abbrev pub invariant-loop-g : goal.invariant-loop-g
invariant-loop-g l =
    l.page ≡ put l.initial.page 0 (packed low_first l.w (take (8 * l.g) l.entries))
