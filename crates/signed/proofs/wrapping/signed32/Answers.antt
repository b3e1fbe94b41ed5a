-- `signed::wrapping::signed32` meets its contract: the library's cast is this very reading.
use Rattle.std.proofs.Common.{◌∙◌, w32}
use Rattle.rules.specs.Signed.{signed}
use Rattle.signed.proofs.Signs.{kept}
use Rattle.signed.proofs.wrapping.signed32.Goals as goal

pub returns : goal.returns
unfolding signed
returns c = kept w32 c.cast_signed.result (record { sfits = c.cast_signed.type_inv }) ∙ c.cast_signed.ensures
