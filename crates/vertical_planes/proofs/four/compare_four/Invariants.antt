-- The loop's invariant: the lanes of each group stand as its planes taken say, and as many are taken of each.
use Prim.Native.Nat.{◌-◌}
use Rattle.vertical_planes.specs.Four.{FourStanding}
use Rattle.vertical_planes.specs.FourNext.{InStep}
use Rattle.vertical_planes.proofs.four.compare_four.Given as goal

abbrev pub invariant-loop-four : goal.invariant-loop-four
invariant-loop-four l =
    InStep l.four × FourStanding l.groups.first.now l.groups.second.now l.groups.third.now l.groups.fourth.now l.ends.band l.four

abbrev pub decreases-loop-four : goal.decreases-loop-four
decreases-loop-four l = l.ends.w - l.four.first.taken
