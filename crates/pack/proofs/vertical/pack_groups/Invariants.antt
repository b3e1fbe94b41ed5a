-- `pack::vertical::pack_groups` meets its contract. The loop's invariant: the planes of the groups passed are in
-- place.
use mathlib.Core.Path.{◌≡◌}
use Prim.Native.Nat.{◌*◌, ◌/◌, ◌%◌}
use Rattle.rules.specs.Bits.{put, tabulate}
use Rattle.rules.specs.Vertical.{plane}
use Rattle.pack.proofs.vertical.pack_groups.Given as goal

abbrev pub invariant-loop-g : goal.invariant-loop-g
invariant-loop-g l =
    l.words ≡ put l.initial.words 0 (tabulate (l.g * l.w) (λ i. plane l.w l.entries (i / l.w) (i % l.w)))
