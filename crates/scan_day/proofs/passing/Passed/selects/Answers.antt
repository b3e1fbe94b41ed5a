-- `scan_day::passing::Passed::selects` meets its contract: the first is kept once there is one.
use borrow.Author.Rules.{rules}
use Rattle.scan_day.specs.SecondsPassed.{more-saturates}
use Rattle.scan_day.proofs.passing.Passed.selects.Goals as goal
use Rattle.scan_day.proofs.passing.Passed.selects.Goals.{in-Some, in-None}

pub returns : goal.returns
returns c =
    rw (c.saturating_add.ensures, more-saturates c.args.self.count (search rules))
    (elim c.match-self.branch [
      | in-Some w ↦ rw (w.first-is, w.in-Some.is)
      | in-None w ↦ rw (w.first-is, w.in-None.is)
    ])
