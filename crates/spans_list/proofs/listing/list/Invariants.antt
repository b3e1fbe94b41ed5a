-- `spans_list::listing::list` meets its contract. The loop's invariant: the edges of the words passed are in place.
use mathlib.Core.Path.{◌≡◌}
use Prim.Native.Nat.{◌*◌}
use lib.ListN.{length}
use Rattle.rules.specs.Bits.{put}
use Rattle.rules.specs.Spans.{selected}
use Rattle.spans_list.specs.Turns.{turned}
use Rattle.spans_list.proofs.listing.list.Given as goal

abbrev pub invariant-loop-q : goal.invariant-loop-q
invariant-loop-q l =
    (l.at ≡ length (turned (selected l.bitmap l.n) (64 * l.q) 0))
    × (l.places ≡ put l.initial.places 0 (turned (selected l.bitmap l.n) (64 * l.q) 0))
