-- `spans_list::turns::edges_in` meets its contract. The loop's invariant: the edges of the words passed are
-- counted, and the carry is the last entry passed.
use mathlib.Core.Path.{◌≡◌}
use Prim.Native.Nat.{◌*◌}
use lib.ListN.{length}
use Rattle.rules.specs.Bits.{flag}
use Rattle.rules.specs.Spans.{selected}
use Rattle.spans_list.specs.Turns.{in_front, turned}
use Rattle.spans_list.proofs.turns.edges_in.Given as goal

abbrev pub invariant-loop-q : goal.invariant-loop-q
invariant-loop-q l =
    (l.count ≡ length (turned (selected l.bitmap l.n) (64 * l.q) 0))
    × (l.carry ≡ flag (in_front (selected l.bitmap l.n) (64 * l.q)))
