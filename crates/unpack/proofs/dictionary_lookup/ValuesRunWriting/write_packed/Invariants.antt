-- `Values::write_packed` meets its contract. The loop's invariant: the values of k indexes are in place, and
-- the next begins at byte `from`.
use mathlib.Core.Path.{◌≡◌}
use Prim.Native.Nat.{◌+◌, ◌*◌, ◌≤◌}
use Rattle.rules.specs.Bits.{field, put, tabulate}
use Rattle.rules.specs.Bits.Order.{low_first}
use Rattle.rules.specs.Dictionary.{value}
use Rattle.unpack.proofs.dictionary_lookup.ValuesRunWriting.write_packed.Given as goal

abbrev pub invariant-loop-k : goal.invariant-loop-k
invariant-loop-k l =
    (l.k ≤ l.m) × (8 * l.from ≡ 8 * l.start + l.k * l.w)
    × (l.entries ≡ put l.initial.entries l.i
    (tabulate l.k (λ k. value l.self.dict.now (field low_first l.page (8 * l.start + k * l.w) l.w))))
