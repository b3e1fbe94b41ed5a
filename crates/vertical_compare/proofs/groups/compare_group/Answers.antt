-- `vertical_compare::groups::compare_group` meets its contract.
use mathlib.Core.Path.{◌≡◌, ◌∙◌}
use Prim.Native.Nat.{ℕ, ◌+◌, ◌-◌}
use native.Mathlib.Omega.{arith}
use lib.ListN.{length}
use mir.Syntax.{w64}
use mir.ValLaws.{to_z-of_z}
use Rattle.vertical_compare.specs.BeforeThePlanes.{any_planes}
use Rattle.vertical_compare.specs.OnePlaneMore.{end-turn}
use Rattle.vertical_compare.specs.AfterAllPlanes.{ends-between}
use Rattle.vertical_compare.proofs.groups.compare_group.Goals as goal

pub loop-i-init : goal.loop-i-init
loop-i-init c =
    let planes = c.args.planes.now in
    let all : length planes - 0 ≡ length planes = omega arith in
    rw all (
      c.start-lower.ensures ∙ any_planes 64 planes (length planes) _,
      c.start-upper.ensures ∙ any_planes 64 planes (length planes) _,
    )

pub loop-i-preserved : goal.loop-i-preserved
loop-i-preserved c =
    let l = c.loop-i in
    let planes = c.args.planes.now in
    let left : ℕ = length planes - l.i in
    let small = (c.type_inv.planes l.i).fits in
    let next : length planes - 1 - l.i ≡ left - 1 = omega arith in
    let more : length planes - (l.i + 1) ≡ left - 1 = omega arith in
    rw more (
      rw next at c.step-lower.ensures ∙ end-turn 64 planes l.i left _ _ (omega arith) small l.invariant.0,
      rw next at c.step-upper.ensures ∙ end-turn 64 planes l.i left _ _ (omega arith) small l.invariant.1,
    )

pub returns : goal.returns
returns c =
    let a = c.args in
    let l = c.loop-i in
    let all : l.i ≡ length a.planes.now = omega arith in
    let none : length a.planes.now - l.i ≡ 0 = omega arith in
    let lower = rw (none, all, to_z-of_z w64 a.low c.ranges.low) at l.invariant.0 in
    let upper = rw (none, all, to_z-of_z w64 a.high c.ranges.high) at l.invariant.1 in
    rw (lower, upper) (ends-between 64 a.planes.now (length a.planes.now) a.low a.high)
