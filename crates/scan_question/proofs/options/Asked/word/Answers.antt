-- `scan_question::options::Asked::word` meets its contract: one word more, behind the others.
use native.Mathlib.Omega.{arith}
use Rattle.scan_question.specs.Options.{left_more}
use Rattle.scan_question.proofs.options.Asked.word.Goals as goal

pub returns : goal.returns
returns c = left_more _ _ _ c.requires.left (omega arith) c.requires.le_at
