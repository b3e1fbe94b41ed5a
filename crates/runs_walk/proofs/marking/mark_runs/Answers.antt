-- `runs_walk::marking::mark_runs` meets its contract: the walk leaves what the pass leaves.
use Rattle.std.proofs.Common.{sym, ◌∙◌}
use Rattle.runs_walk.specs.Marked.{marked-pass}
use Rattle.runs_walk.proofs.marking.mark_runs.Goals as goal

pub returns : goal.returns
returns c = c.write_runs.ensures ∙ sym (marked-pass _ _ _ _ _)
