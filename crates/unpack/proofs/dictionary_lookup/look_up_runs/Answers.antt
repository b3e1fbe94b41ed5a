-- `unpack::dictionary_lookup::look_up_runs` meets its contract: the walk leaves what the pass leaves.
use Rattle.std.proofs.Common.{sym, ◌∙◌}
use Rattle.rules.specs.Dictionary.{value}
use Rattle.runs_walk.specs.Placed.{placed-pass}
use Rattle.unpack.proofs.dictionary_lookup.look_up_runs.Goals as goal

pub returns : goal.returns
returns c = c.write_runs.ensures ∙ sym (placed-pass (value c.args.dict.now) _ _ _ _)
