-- `vertical_planes::lanes::step` meets its contract, which is what it computes.
use mathlib.Core.Path.{refl}
use Rattle.vertical_planes.specs.Standing.{stepped}
use Rattle.vertical_planes.proofs.lanes.step.Goals as goal

pub returns : goal.returns
unfolding stepped
returns c = refl
