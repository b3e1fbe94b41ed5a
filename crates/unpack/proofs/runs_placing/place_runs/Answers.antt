-- `unpack::runs_placing::place_runs` meets its contract: the walk leaves what the pass leaves.
use Rattle.std.proofs.Common.{sym, ◌∙◌}
use Rattle.runs_walk.specs.Placed.{placed-pass}
use Rattle.unpack.proofs.runs_placing.place_runs.Goals as goal

pub returns : goal.returns
returns c = c.write_runs.ensures ∙ sym (placed-pass (λ x. x) _ _ _ _)
