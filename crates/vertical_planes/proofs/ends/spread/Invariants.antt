-- The loop's invariant: the bits passed are laid out.
use Rattle.vertical_planes.specs.Ends.{LaidOut}
use Rattle.vertical_planes.proofs.ends.spread.Given as goal

abbrev pub invariant-loop-k : goal.invariant-loop-k
invariant-loop-k l = LaidOut l.masks l.w l.c l.k
