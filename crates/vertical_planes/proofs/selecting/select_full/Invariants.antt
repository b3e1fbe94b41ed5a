-- The loop's invariant: the words of the groups passed are in place.
use mathlib.Core.Path.{◌≡◌}
use Prim.Native.Nat.{◌*◌}
use Rattle.rules.specs.Bits.{put}
use Rattle.vertical_planes.specs.Chosen.{chosen}
use Rattle.vertical_planes.proofs.selecting.select_full.Given as goal

abbrev pub invariant-loop-g : goal.invariant-loop-g
invariant-loop-g l = l.bitmap ≡ put l.fn.bitmap 0 (chosen l.words (64 * l.g) l.ends.w l.ends.band)
