-- `signed::wrapping::kept32` meets its contract: the 32 low bits of 64 in two's complement are the remainder.
use Rattle.std.proofs.Common.{◌≡◌, ◌%◌, ℤ, pos, negsuc, refl, arith, w64, SFits, of_z}
use Rattle.rules.specs.Signed.{modulo}
use Rattle.signed.proofs.Signs.{kept}
use Rattle.signed.proofs.wrapping.kept32.Goals as goal

low-bits : (z : ℤ) → SFits w64 z → of_z w64 z % 4294967296 ≡ modulo 32 z
unfolding modulo
low-bits (pos k) h = refl
low-bits (negsuc k) h = let few = h.sfits in omega arith

pub returns : goal.returns
returns c =
    let z = c.args.z in
    rw (c.cast_unsigned.ensures, kept w64 z c.ranges.z) (low-bits z c.ranges.z)
