-- The loop's invariant: the planes passed are in place.
use mathlib.Core.Path.{◌≡◌}
use Prim.Native.Nat.{◌+◌, ◌*◌}
use Rattle.rules.specs.Bits.{put, tabulate}
use Rattle.rules.specs.Vertical.{plane}
use Rattle.vertical_turn.proofs.packing.pack_group.Given as goal

abbrev pub invariant-loop-q : goal.invariant-loop-q
invariant-loop-q l = l.planes ≡ put l.fn.planes 0 (tabulate (l.rest + 8 * l.q) (plane l.w l.entries 0))
