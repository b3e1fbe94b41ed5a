-- The loop's invariant: the bits of the entries behind are gathered.
use mathlib.Core.Path.{◌≡◌}
use Prim.Native.Nat.{◌-◌}
use lib.ListN.{drop}
use Rattle.vertical_turn.specs.Planes.{bits_of}
use Rattle.vertical_turn.proofs.packing.plane_of.Given as goal

abbrev pub invariant-loop-j : goal.invariant-loop-j
invariant-loop-j l = l.p ≡ bits_of (l.w - 1 - l.k) (drop l.j l.entries)
