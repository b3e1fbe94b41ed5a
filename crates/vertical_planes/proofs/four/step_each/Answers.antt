-- `vertical_planes::four::step_each` meets its contract: four steps.
use Rattle.vertical_planes.proofs.four.step_each.Goals as goal

pub returns : goal.returns
returns c = rw (c.step.ensures, c.step-2.ensures, c.step-3.ensures, c.step-4.ensures)
