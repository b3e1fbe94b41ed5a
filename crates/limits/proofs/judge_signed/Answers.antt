-- `limits::judge_signed` meets its contract: the kind is made of the number.
use mathlib.Core.Path.{ap, ◌∙◌}
use Rattle.rules.specs.Answer.{count_fault}
use Rattle.limits.proofs.judge_signed.Goals as goal

pub returns : goal.returns
returns c = c.judge.ensures ∙ ap count_fault c.new.ensures
