-- `scan_day::passing::Passed::loses` meets its contract: one more.
use borrow.Author.Rules.{rules}
use Rattle.scan_day.specs.SecondsPassed.{more-saturates}
use Rattle.scan_day.proofs.passing.Passed.loses.Goals as goal

pub returns : goal.returns
returns c = rw (c.saturating_add.ensures, more-saturates c.args.self.lost (search rules))
