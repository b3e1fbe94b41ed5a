-- `limits::judge_unsigned` meets its contract: the kind is made of the two numbers.
use mathlib.Core.Path.{ap₂, ◌∙◌}
use Rattle.rules.specs.Answer.{limit_fault}
use Rattle.limits.proofs.judge_unsigned.Goals as goal

pub returns : goal.returns
returns c = c.judge.ensures ∙ ap₂ limit_fault c.new.ensures.0 c.new.ensures.1
