-- `packed_entries::unpacking::unpack` meets its contract: behind the groups, each turn fills one place more.
use mathlib.Core.Path.{◌≡◌}
use Rattle.rules.specs.Bits.{entry, put, tabulate}
use Rattle.rules.specs.Bits.Order.{low_first}
use Rattle.packed_entries.proofs.unpacking.unpack.Given as goal

abbrev pub invariant-loop-i : goal.invariant-loop-i
invariant-loop-i l =
    l.entries ≡ put l.initial.entries 0 (tabulate l.i (entry low_first l.page l.w))
