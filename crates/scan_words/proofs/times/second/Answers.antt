-- `scan_words::times::second` meets its contract: test by test.
use Rattle.std.proofs.Common.{arith}
use Rattle.std.proofs.lemmas.Bool.Decides.{nat_tests}
use Rattle.scan_words.specs.Times.{clock_second}
use Rattle.scan_words.proofs.times.second.Goals as goal

pub returns-then-hours-gt23 : goal.returns-then-hours-gt23
unfolding clock_second
returns-then-hours-gt23 c = grind (arith, nat_tests)

pub returns : goal.returns
unfolding clock_second
returns c = grind (arith, nat_tests)
