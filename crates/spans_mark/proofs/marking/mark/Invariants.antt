-- `spans_mark::marking::mark` meets its contract. The loop's invariant: the pairs passed are in the
-- bitmap, or in the word that comes next, and their entries are counted (`Marking`).
use mathlib.Core.Path.{◌≡◌}
use Prim.Native.Nat.{◌*◌, ◌≤◌}
use lib.ListN.{length, drop}
use Rattle.spans_mark.specs.Marked.{Marking}
use Rattle.spans_mark.proofs.marking.mark.Given as goal

abbrev pub invariant-loop-pair : goal.invariant-loop-pair
invariant-loop-pair l =
    (l.pair-iterator.size ≡ 2) × (2 * length l.yielded ≤ length l.list)
    × (l.pair-iterator.rest.now ≡ drop (2 * length l.yielded) l.list)
    × Marking l.n l.list (2 * length l.yielded) l.at l.word l.longer l.initial.bitmap l.bitmap
