-- `vertical_planes::ends::start` meets its contract: the constant is read back from its bits, and the
-- tests place it below, within or above.
use mathlib.Core.Path.{◌≡◌}
use mathlib.Core.Bool.{false}
use lib.IntN.{pos}
use lib.Signed.{lt_z}
use mir.Syntax.{w64}
use mir.Val.{to_z, of_z}
use mir.ValLaws.{to_z-of_z}
use Rattle.vertical_planes.specs.BeforeThePlanes.{start_below, start_within, start_above}
use Rattle.vertical_planes.proofs.ends.start.Goals as goal

pub returns-then-constant-lt0 : goal.returns-then-constant-lt0
returns-then-constant-lt0 c =
    let z = c.args.constant in
    let back : to_z w64 (of_z w64 z) ≡ z = to_z-of_z w64 z c.ranges.constant in
    start_below c.args.w z (rw back at c.if-constant-lt0.true)

pub returns-then-constant-w-eq0 : goal.returns-then-constant-w-eq0
returns-then-constant-w-eq0 c =
    let z = c.args.constant in
    let back : to_z w64 (of_z w64 z) ≡ z = to_z-of_z w64 z c.ranges.constant in
    let not-below : lt_z z (pos 0) ≡ false = rw back at c.if-constant-lt0.false in
    start_within c.args.w z not-below (rw back at c.if-constant-w-eq0.true)

pub returns-else-constant-w-eq0 : goal.returns-else-constant-w-eq0
returns-else-constant-w-eq0 c =
    let z = c.args.constant in
    let back : to_z w64 (of_z w64 z) ≡ z = to_z-of_z w64 z c.ranges.constant in
    let not-below : lt_z z (pos 0) ≡ false = rw back at c.if-constant-lt0.false in
    start_above c.args.w z not-below (rw back at c.if-constant-w-eq0.false)
