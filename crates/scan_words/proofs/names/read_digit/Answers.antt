-- `scan_words::names::read_digit` meets its contract: one byte, from `0` to `7`.
use Rattle.std.proofs.Common.{arith}
use Rattle.std.proofs.lemmas.Bool.Decides.{nat_tests}
use Rattle.scan_words.specs.Names.{operator_number, numbers}
use Rattle.scan_words.proofs.names.read_digit.Goals as goal

pub returns-clause-value : goal.returns-clause-value
unfolding operator_number numbers
returns-clause-value c = grind (arith, nat_tests)

pub returns-then-word-ne1-clause-value : goal.returns-then-word-ne1-clause-value
unfolding operator_number numbers
returns-then-word-ne1-clause-value c = grind (arith, nat_tests)
