-- `scan_stretches::told::gaps_closed` meets its contract: nothing where no gap is closed.
use mathlib.Core.Bool.{cond}
use native.Mathlib.Omega.{arith}
use lib.Dec.{eqb}
use borrow.Author.Rules.{rules}
use borrow.Author.Tests.{eq-eqb, ne_eqb}
use Rattle.lines.specs.Text.{ascii, held, decimal}
use Rattle.lines.specs.Laws.{none}
use Rattle.scan_day.specs.Clock.{laid-three}
use Rattle.scan_stretches.specs.Told.{gaps_closed}
use Rattle.scan_stretches.proofs.told.gaps_closed.Goals as goal

pub returns-then-gap-eq0 : goal.returns-then-gap-eq0
unfolding gaps_closed held
returns-then-gap-eq0 c =
    let line = c.args.line in
    rw (eq-eqb c.args.gap 0 (omega arith)) (none line.text line.used (search rules))

pub returns : goal.returns
unfolding gaps_closed ascii
returns c =
    let a = c.args in
    rw (ne_eqb a.gap 0 (omega arith))
    (cc
    (laid-three (held a.line) (ascii ", gaps of up to ") (decimal a.gap)
    (cond (eqb a.gap 1) (ascii " second closed") (ascii " seconds closed"))))
