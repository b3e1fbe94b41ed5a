-- `scan_words::numbers::longer` meets its contract: one digit more where there is room.
use Rattle.std.proofs.Common.{arith}
use Rattle.std.proofs.lemmas.Bool.Decides.{nat_tests}
use Rattle.scan_words.specs.Numbers.{further}
use Rattle.scan_words.proofs.numbers.longer.Goals as goal

pub returns-then-m-gt-ROOM : goal.returns-then-m-gt-ROOM
unfolding further
returns-then-m-gt-ROOM c = grind (arith, nat_tests)

pub returns : goal.returns
unfolding further
returns c = grind (arith, nat_tests)
