-- `scan_words::numbers::positive` meets its contract: a number below 2^63.
use Rattle.std.proofs.Common.{arith}
use Rattle.std.proofs.lemmas.Bool.Decides.{nat_tests}
use Rattle.std.proofs.lemmas.Int.{ints}
use Rattle.scan_words.specs.Numbers.{at_most}
use Rattle.scan_words.proofs.numbers.positive.Goals as goal

pub returns : goal.returns
unfolding at_most
returns c = grind (arith, nat_tests, ints)
