-- `signed::wrapping::raised32` meets its contract: half of 2^32 is added, wrapping.
use Rattle.std.proofs.Common.{w64}
use Rattle.signed.specs.Raised.{raised}
use Rattle.signed.proofs.Signs.{kept}
use Rattle.signed.proofs.wrapping.raised32.Goals as goal

pub returns : goal.returns
unfolding raised
returns c = rw (c.kept32.ensures, kept w64 c.args.z c.ranges.z)
