-- `vertical_planes::ends::bits_of` meets its contract: the constant is read back from its bits.
use mathlib.Core.Path.{◌≡◌}
use mathlib.Core.Bool.{false}
use Prim.Native.Nat.{◌^◌}
use native.Mathlib.Omega.{arith}
use lib.IntN.{pos}
use lib.Signed.{lt_z}
use mir.Syntax.{w64}
use mir.Val.{to_z, of_z}
use mir.ValLaws.{to_z-of_z}
use Rattle.vertical_planes.specs.BeforeThePlanes.{whole}
use Rattle.vertical_planes.specs.Masks.{bits_below, bits-whole}
use Rattle.vertical_planes.proofs.ends.bits_of.Goals as goal

pub returns-then-constant-lt0 : goal.returns-then-constant-lt0
returns-then-constant-lt0 c =
    let z = c.args.constant in
    let back : to_z w64 (of_z w64 z) ≡ z = to_z-of_z w64 z c.ranges.constant in
    bits_below z (rw back at c.if-constant-lt0.true)

pub overflow_cast-result : goal.overflow_cast-result
overflow_cast-result c =
    let z = c.args.constant in
    let back : to_z w64 (of_z w64 z) ≡ z = to_z-of_z w64 z c.ranges.constant in
    let not-below : lt_z z (pos 0) ≡ false = rw back at c.if-constant-lt0.false in
    let fits = whole z (2 ^ 63) not-below c.ranges.constant.sfits in
    rw back (fits.0, omega (arith, fits.1))

pub returns-else-constant-lt0 : goal.returns-else-constant-lt0
returns-else-constant-lt0 c =
    let z = c.args.constant in
    let back : to_z w64 (of_z w64 z) ≡ z = to_z-of_z w64 z c.ranges.constant in
    let not-below : lt_z z (pos 0) ≡ false = rw back at c.if-constant-lt0.false in
    rw back (bits-whole z not-below)
