-- `compare::signed_ranges::next` meets its contract: those at most a number are those below the next.
use Rattle.std.proofs.Common.{arith}
use Rattle.std.proofs.lemmas.Grind.{common_steps}
use Rattle.compare.specs.SignedRange.{signed_cut, signed_next}
use Rattle.compare.proofs.signed_ranges.next.Goals as goal

pub returns : goal.returns
unfolding signed_cut signed_next
returns c = grind (arith, common_steps)
