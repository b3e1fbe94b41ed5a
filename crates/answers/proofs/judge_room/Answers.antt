-- `answers::judge_room` meets its contract: its test is the listed fault.
use borrow.Author.Tests.{lt-ltb, le-ltb}
use Rattle.rules.specs.Answer.{room_fault}
use Rattle.answers.proofs.judge_room.Goals as goal

pub returns-then-places-need : goal.returns-then-places-need
unfolding room_fault
returns-then-places-need c = rw (lt-ltb _ _ c.if-places-need.true)

pub returns : goal.returns
unfolding room_fault
returns c = rw (le-ltb _ _ c.if-places-need.false)
