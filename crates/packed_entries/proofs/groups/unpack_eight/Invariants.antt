-- `packed_entries::groups::unpack_eight` meets its contract: each turn fills one place more.
use mathlib.Core.Path.{◌≡◌}
use Prim.Native.Nat.{◌+◌, ◌*◌}
use Rattle.rules.specs.Bits.{field, put, tabulate}
use Rattle.rules.specs.Bits.Order.{low_first}
use Rattle.packed_entries.proofs.groups.unpack_eight.Given as goal

abbrev pub invariant-loop-j : goal.invariant-loop-j
invariant-loop-j l =
    l.entries ≡ put l.initial.entries l.i (tabulate l.j (λ k. field low_first l.page (8 * l.at + k * l.w) l.w))
