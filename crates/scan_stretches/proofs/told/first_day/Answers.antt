-- `scan_stretches::told::first_day` meets its contract: told where it is the first of several.
use native.Mathlib.Omega.{arith}
use borrow.Author.Rules.{rules}
use borrow.Author.Tests.{eq-eqb, ne_eqb}
use Rattle.lines.specs.Text.{ascii, held}
use Rattle.lines.specs.Laws.{none}
use Rattle.scan_stretches.specs.Told.{first_day}
use Rattle.scan_stretches.proofs.told.first_day.Goals as goal
use Rattle.scan_stretches.proofs.told.first_day.Goals.{else-has_days-via-then-has_days+else-day-eq1}
use Rattle.scan_stretches.proofs.told.first_day.Goals.{else-has_days-via-else-has_days}

pub returns-then-day-eq1 : goal.returns-then-day-eq1
unfolding first_day ascii
returns-then-day-eq1 c = rw (c.if-has_days.true, eq-eqb c.args.day 1 (omega arith)) c.words.ensures

pub returns-else-has_days : goal.returns-else-has_days
unfolding first_day held
returns-else-has_days c =
    let a = c.args in
    let same = none a.line.text a.line.used (search rules) in
    elim c.else-has_days.branch [
      | else-has_days-via-then-has_days+else-day-eq1 w ↦
          rw (w.if-has_days.true, ne_eqb a.day 1 (omega arith)) same
      | else-has_days-via-else-has_days w ↦ rw w.if-has_days.false same
    ]
