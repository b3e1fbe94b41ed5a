-- `dictionary_indexes::windows::some_in` meets its contract. The loop's invariant: a bit of the sums is set where
-- the groups passed have an index that is too large.
use mathlib.Core.Path.{◌≡◌}
use Prim.Native.Nat.{◌+◌, ◌*◌, ◌^◌}
use lib.Bits.{bit_and}
use lib.Dec.{leb, ltb}
use Rattle.rules.specs.Bits.{field, some_below}
use Rattle.rules.specs.Bits.Order.{low_first}
use Rattle.dictionary_indexes.proofs.windows.some_in.Given as goal

abbrev pub invariant-loop-g : goal.invariant-loop-g
invariant-loop-g l =
    ltb 0 (bit_and l.large (2 ^ l.w * l.ones))
    ≡ some_below (8 * l.g) (λ k. leb l.limit (field low_first l.page (8 * l.start + k * l.w) l.w))
