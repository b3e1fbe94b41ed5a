-- `vertical_compare::ends::start` meets its contract: the constant is read back from its bits, and the tests place
-- it below, within or above.
use mathlib.Core.Path.{◌≡◌}
use mathlib.Core.Bool.{false}
use mathlib.Core.List.{[]}
use Prim.Native.Nat.{◌^◌}
use native.Mathlib.Omega.{arith}
use lib.IntN.{pos}
use lib.Signed.{lt_z}
use mir.Syntax.{w64}
use mir.Val.{to_z, of_z}
use mir.ValLaws.{to_z-of_z}
use Rattle.vertical_compare.specs.BeforeThePlanes.{whole, start_below, start_within, start_above}
use Rattle.vertical_compare.proofs.ends.start.Goals as goal

pub returns-then-constant-lt0 : goal.returns-then-constant-lt0
returns-then-constant-lt0 c =
    let z = c.args.constant in
    let back : to_z w64 (of_z w64 z) ≡ z = to_z-of_z w64 z c.ranges.constant in
    start_below 64 [] c.args.w z (rw back at c.if-constant-lt0.true)

pub overflow_cast-constant : goal.overflow_cast-constant
overflow_cast-constant c =
    let z = c.args.constant in
    let back : to_z w64 (of_z w64 z) ≡ z = to_z-of_z w64 z c.ranges.constant in
    let not-below : lt_z z (pos 0) ≡ false = rw back at c.if-constant-lt0.false in
    let fits = whole z (2 ^ 63) not-below c.ranges.constant.sfits in
    rw back (fits.0, omega (arith, fits.1))

pub returns-then-constant-w-eq0 : goal.returns-then-constant-w-eq0
returns-then-constant-w-eq0 c =
    let z = c.args.constant in
    let back : to_z w64 (of_z w64 z) ≡ z = to_z-of_z w64 z c.ranges.constant in
    let not-below : lt_z z (pos 0) ≡ false = rw back at c.if-constant-lt0.false in
    rw back
    (start_within 64 [] c.args.w z not-below
    (rw back at c.if-constant-w-eq0.true))

pub returns-else-constant-w-eq0 : goal.returns-else-constant-w-eq0
returns-else-constant-w-eq0 c =
    let z = c.args.constant in
    let back : to_z w64 (of_z w64 z) ≡ z = to_z-of_z w64 z c.ranges.constant in
    let not-below : lt_z z (pos 0) ≡ false = rw back at c.if-constant-lt0.false in
    rw back
    (start_above 64 [] c.args.w z not-below (rw back at c.if-constant-w-eq0.false))
