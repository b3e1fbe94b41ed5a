-- A byte's `spell` meets its contract: its two digits.
use Rattle.lines.specs.Text.{hexadecimal}
use Rattle.lines.proofs.spelled.U8Spelled.spell.Goals as goal

pub returns : goal.returns
unfolding hexadecimal
returns c = cc
