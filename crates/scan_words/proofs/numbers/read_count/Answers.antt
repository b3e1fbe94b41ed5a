-- `scan_words::numbers::read_count` meets its contract: what is kept of the digits, where it is below 2^32.
use Rattle.std.proofs.Common.{arith}
use Rattle.std.proofs.lemmas.Bool.Decides.{nat_tests}
use Rattle.scan_words.specs.Numbers.{spelled, count_of}
use Rattle.scan_words.specs.DigitByDigit.{kept-counted}
use Rattle.scan_words.proofs.numbers.read_count.Goals as goal

pub returns-in_err-magnitude : goal.returns-in_err-magnitude
unfolding count_of
returns-in_err-magnitude c = grind (arith, nat_tests, kept-counted (spelled c.args.word.now))

pub returns : goal.returns
unfolding count_of
returns c = grind (arith, nat_tests, kept-counted (spelled c.args.word.now))
