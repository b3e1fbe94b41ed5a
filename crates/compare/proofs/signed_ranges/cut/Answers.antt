-- `compare::signed_ranges::cut` meets its contract: what is clamped and raised by 2^31 is how many are below.
use Rattle.std.proofs.Common.{arith}
use Rattle.std.proofs.lemmas.Grind.{common_steps}
use Rattle.compare.specs.SignedRange.{signed_cut}
use Rattle.compare.proofs.signed_ranges.cut.Goals as goal

pub returns : goal.returns
unfolding signed_cut
returns c = grind (arith, common_steps)
