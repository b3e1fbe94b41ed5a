-- The loop's invariant: every entry has the digits of the planes passed.
use mathlib.Core.Path.{◌≡◌}
use Prim.Native.Nat.{◌+◌, ◌*◌}
use Rattle.rules.specs.Bits.{put, tabulate}
use Rattle.rules.specs.Vertical.{lane}
use Rattle.vertical_turn.proofs.unpacking.unpack_group.Given as goal

abbrev pub invariant-loop-q : goal.invariant-loop-q
invariant-loop-q l = l.entries ≡ put l.fn.entries 0 (tabulate l.m (lane l.planes 0 (l.rest + 8 * l.q)))
