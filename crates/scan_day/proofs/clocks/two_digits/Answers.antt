-- `scan_day::clocks::two_digits` meets its contract: a `0` before one digit.
use mathlib.Core.List.{[], ◌∷◌}
use native.Mathlib.Omega.{arith}
use borrow.Author.Tests.{lt-ltb, le-ltb}
use Rattle.lines.specs.Text.{held, decimal}
use Rattle.lines.specs.Laws.{laid-laid}
use Rattle.scan_day.specs.Clock.{two_digits}
use Rattle.scan_day.proofs.clocks.two_digits.Goals as goal

pub returns-then-n-lt10 : goal.returns-then-n-lt10
unfolding two_digits
returns-then-n-lt10 c =
    rw (lt-ltb c.args.n 10 (omega arith)) (cc (laid-laid (held c.args.line) (48 ∷ []) (decimal c.args.n)))

pub returns-else-n-lt10 : goal.returns-else-n-lt10
unfolding two_digits
returns-else-n-lt10 c = rw (le-ltb c.args.n 10 (omega arith)) c.number-else-n-lt10.ensures
