-- `scan_day::passing::Passed::reads` meets its contract: one more.
use borrow.Author.Rules.{rules}
use Rattle.scan_day.specs.SecondsPassed.{more-saturates}
use Rattle.scan_day.proofs.passing.Passed.reads.Goals as goal

pub returns : goal.returns
returns c = rw (c.saturating_add.ensures, more-saturates c.args.self.read (search rules))
