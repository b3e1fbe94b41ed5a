-- `limits::Unsigned::judge` meets its contract: each test is one of the listed faults.
use native.Mathlib.Omega.{arith}
use borrow.Author.Tests.{lt-ltb, le-ltb}
use Rattle.rules.specs.Answer.{limit_fault, ◌then◌}
use Rattle.limits.proofs.Unsigned.judge.Goals as goal

pub returns-then-self-gt-MAX_WIDTH : goal.returns-then-self-gt-MAX_WIDTH
unfolding limit_fault ◌then◌
returns-then-self-gt-MAX_WIDTH c = rw (lt-ltb 32 c.args.self.width (omega arith))

pub returns-then-self-gt-MAX_ENTRIES : goal.returns-then-self-gt-MAX_ENTRIES
unfolding limit_fault ◌then◌
returns-then-self-gt-MAX_ENTRIES c =
    let s = c.args.self in rw (le-ltb 32 s.width (omega arith), lt-ltb 16384 s.entries (omega arith))

pub returns : goal.returns
unfolding limit_fault ◌then◌
returns c = let s = c.args.self in rw (le-ltb 32 s.width (omega arith), le-ltb 16384 s.entries (omega arith))
