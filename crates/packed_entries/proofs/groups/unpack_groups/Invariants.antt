-- `packed_entries::groups::unpack_groups` meets its contract: each turn puts a group behind those in place.
use mathlib.Core.Path.{◌≡◌}
use Prim.Native.Nat.{◌*◌}
use Rattle.rules.specs.Bits.{entry, put, tabulate}
use Rattle.rules.specs.Bits.Order.{low_first}
use Rattle.packed_entries.proofs.groups.unpack_groups.Given as goal

abbrev pub invariant-loop-g : goal.invariant-loop-g
invariant-loop-g l =
    l.entries ≡ put l.initial.entries 0 (tabulate (8 * l.g) (entry low_first l.page l.w))
