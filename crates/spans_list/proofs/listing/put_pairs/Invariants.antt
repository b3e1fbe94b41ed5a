-- `spans_list::listing::put_pairs` meets its contract. The loop's invariant: the edges found so far are in place, and
-- those left are the others (`Found`), of which a stretch begins at the first.
use mathlib.Core.Path.{◌≡◌}
use mathlib.Core.Bool.{false}
use Prim.Native.Nat.{◌^◌, ◌<◌}
use lib.ListN.{length}
use Rattle.spans_list.specs.SetBits.{Found}
use Rattle.spans_list.proofs.listing.put_pairs.Given as goal

abbrev pub invariant-loop-left : goal.invariant-loop-left
invariant-loop-left l =
    Found false 64 l.p l.turns false l.left l.initial.places l.places l.q l.at
    × (length l.places ≡ length l.initial.places) × (l.left < 2 ^ 64)

abbrev pub decreases-loop-left : goal.decreases-loop-left
decreases-loop-left l = l.left
