-- `scan_day::clocks::of_day` meets its contract: nothing of the first day.
use native.Mathlib.Omega.{arith}
use borrow.Author.Rules.{rules}
use borrow.Author.Tests.{eq-eqb, ne_eqb}
use Rattle.lines.specs.Text.{ascii, held, decimal}
use Rattle.lines.specs.Laws.{laid-laid, none}
use Rattle.scan_day.specs.Clock.{of_day}
use Rattle.scan_day.proofs.clocks.of_day.Goals as goal

pub returns-then-day-eq1 : goal.returns-then-day-eq1
unfolding of_day held
returns-then-day-eq1 c =
    let line = c.args.line in
    rw (eq-eqb c.args.day 1 (omega arith)) (none line.text line.used (search rules))

pub returns-else-day-eq1 : goal.returns-else-day-eq1
unfolding of_day ascii
returns-else-day-eq1 c =
    let a = c.args in
    rw (ne_eqb a.day 1 (omega arith)) (cc (laid-laid (held a.line) (ascii " of day ") (decimal a.day)))
