-- The loop's invariant: whole rows of eight places are filled.
use mathlib.Core.Path.{◌≡◌}
use Prim.Native.Nat.{◌*◌}
use Rattle.rules.specs.Bits.{put, tabulate}
use Rattle.vertical_turn.specs.Rows.{grown}
use Rattle.vertical_turn.proofs.unpacking.rows.Given as goal

abbrev pub invariant-loop-q : goal.invariant-loop-q
invariant-loop-q l = l.entries ≡ put l.initial.entries 0 (tabulate (8 * l.q) (grown l.words l.initial.entries))
