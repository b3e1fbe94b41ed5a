-- `unpack::vertical::unpack_groups` meets its contract. The loop's invariant: the entries of the groups passed are
-- in place.
use mathlib.Core.Path.{◌≡◌}
use Prim.Native.Nat.{◌*◌, min}
use Rattle.rules.specs.Bits.{put, tabulate}
use Rattle.rules.specs.Vertical.{entry}
use Rattle.unpack.proofs.vertical.unpack_groups.Given as goal

abbrev pub invariant-loop-g : goal.invariant-loop-g
invariant-loop-g l =
    l.entries ≡ put l.initial.entries 0 (tabulate (min (64 * l.g) l.n) (entry l.words l.w))
