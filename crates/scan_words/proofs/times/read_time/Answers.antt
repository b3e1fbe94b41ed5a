-- `scan_words::times::read_time` meets its contract: eight bytes, the third and the sixth `:`, and three numbers.
use Rattle.std.proofs.Common.{arith}
use Rattle.std.proofs.lemmas.Bool.Decides.{nat_tests}
use Rattle.scan_words.specs.Times.{time_of}
use Rattle.scan_words.proofs.times.read_time.Goals as goal

pub returns-then-word-ne8 : goal.returns-then-word-ne8
unfolding time_of
returns-then-word-ne8 c = grind (arith, nat_tests)

pub returns-in_err-hours : goal.returns-in_err-hours
unfolding time_of
returns-in_err-hours c = grind (arith, nat_tests)

pub returns-in_err-minutes : goal.returns-in_err-minutes
unfolding time_of
returns-in_err-minutes c = grind (arith, nat_tests)

pub returns-in_err-magnitude : goal.returns-in_err-magnitude
unfolding time_of
returns-in_err-magnitude c = grind (arith, nat_tests)

pub returns : goal.returns
unfolding time_of
returns c = grind (arith, nat_tests)
