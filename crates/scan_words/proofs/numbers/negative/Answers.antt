-- `scan_words::numbers::negative` meets its contract: a number at most 2^63.
use Rattle.std.proofs.Common.{arith}
use Rattle.std.proofs.lemmas.Bool.Decides.{nat_tests}
use Rattle.std.proofs.lemmas.Int.{ints}
use Rattle.scan_words.specs.Numbers.{below}
use Rattle.scan_words.proofs.numbers.negative.Goals as goal

pub returns : goal.returns
unfolding below
returns c = grind (arith, nat_tests, ints)
