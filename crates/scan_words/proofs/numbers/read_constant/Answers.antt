-- `scan_words::numbers::read_constant` meets its contract: by its sign, and what is kept of the digits.
use Rattle.std.proofs.Common.{drop, arith}
use Rattle.std.proofs.lemmas.Bool.Decides.{nat_tests}
use Rattle.scan_words.specs.Numbers.{spelled, constant_of}
use Rattle.scan_words.specs.DigitByDigit.{spelled-none, kept-at_most, kept-below, behind}
use Rattle.scan_words.proofs.numbers.read_constant.Goals as goal

pub returns-in_err-magnitude-in-45 : goal.returns-in_err-magnitude-in-45
unfolding constant_of
returns-in_err-magnitude-in-45 c = grind (arith, nat_tests, kept-below (spelled (drop 1 c.args.word.now)), behind c.args.word.now)

pub returns-in_ok-magnitude-in-45 : goal.returns-in_ok-magnitude-in-45
unfolding constant_of
returns-in_ok-magnitude-in-45 c = grind (arith, nat_tests, kept-below (spelled (drop 1 c.args.word.now)), behind c.args.word.now)

pub returns-in_err-magnitude-in-43 : goal.returns-in_err-magnitude-in-43
unfolding constant_of
returns-in_err-magnitude-in-43 c = grind (arith, nat_tests, kept-at_most (spelled (drop 1 c.args.word.now)), behind c.args.word.now)

pub returns-in_ok-magnitude-in-43 : goal.returns-in_ok-magnitude-in-43
unfolding constant_of
returns-in_ok-magnitude-in-43 c = grind (arith, nat_tests, kept-at_most (spelled (drop 1 c.args.word.now)), behind c.args.word.now)

pub returns-in_err-magnitude-in_default : goal.returns-in_err-magnitude-in_default
unfolding constant_of
returns-in_err-magnitude-in_default c =
    grind (arith, nat_tests, spelled-none c.args.word.now, kept-at_most (spelled c.args.word.now))

pub returns-in_ok-magnitude-in_default : goal.returns-in_ok-magnitude-in_default
unfolding constant_of
returns-in_ok-magnitude-in_default c =
    grind (arith, nat_tests, spelled-none c.args.word.now, kept-at_most (spelled c.args.word.now))
