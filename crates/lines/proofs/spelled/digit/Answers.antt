-- `lines::spelled::digit` meets its contract: a digit below ten, or a letter.
use borrow.Author.Tests.{lt-ltb, le-ltb}
use Rattle.lines.specs.Text.{hex_digit}
use Rattle.lines.proofs.spelled.digit.Goals as goal

pub returns-then-d-lt10 : goal.returns-then-d-lt10
unfolding hex_digit
returns-then-d-lt10 c = rw (lt-ltb c.args.d 10 c.if-d-lt10.true)

pub returns-else-d-lt10 : goal.returns-else-d-lt10
unfolding hex_digit
returns-else-d-lt10 c = rw (le-ltb c.args.d 10 c.if-d-lt10.false)
