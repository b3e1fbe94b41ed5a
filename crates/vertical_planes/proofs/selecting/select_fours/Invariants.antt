-- The loop's invariant: the words of the groups passed are in place.
use mathlib.Core.Path.{◌≡◌}
use Prim.Native.Nat.{◌*◌}
use Rattle.rules.specs.Bits.{put}
use Rattle.vertical_planes.specs.Chosen.{chosen}
use Rattle.vertical_planes.proofs.selecting.select_fours.Given as goal

abbrev pub invariant-loop-k : goal.invariant-loop-k
invariant-loop-k l = l.bitmap ≡ put l.initial.bitmap 0 (chosen l.words (64 * (4 * l.k)) l.ends.w l.ends.band)
