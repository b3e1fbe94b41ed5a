-- `limits::Signed::judge` meets its contract: its test is the listed fault.
use borrow.Author.Tests.{lt-ltb, le-ltb}
use Rattle.limits.proofs.Signed.judge.Goals as goal

pub returns-then-self-gt-MAX_ENTRIES : goal.returns-then-self-gt-MAX_ENTRIES
returns-then-self-gt-MAX_ENTRIES c = rw (lt-ltb _ _ c.if-self-gt-MAX_ENTRIES.true)

pub returns : goal.returns
returns c = rw (le-ltb _ _ c.if-self-gt-MAX_ENTRIES.false)
