-- `vertical_planes::groups::finish` meets its contract.
use mathlib.Core.Path.{refl, ◌∙◌}
use Prim.Native.Nat.{◌^◌, ◌<◌}
use native.Mathlib.Omega.{arith}
use Rattle.vertical_planes.specs.Standing.{stepped}
use Rattle.vertical_planes.specs.NextPlane.{standing_next}
use Rattle.vertical_planes.specs.Needed.{told_settled, told_all}
use Rattle.vertical_planes.proofs.groups.finish.Goals as goal

pub loop-left-init : goal.loop-left-init
loop-left-init c = c.requires.standing

pub returns-then-left-eq0 : goal.returns-then-left-eq0
returns-then-left-eq0 c =
    c.told.ensures ∙ told_settled _ _ c.loop-left.left c.loop-left.invariant c.if-left-eq0.true

pub loop-left-smaller : goal.loop-left-smaller
unfolding stepped
loop-left-smaller c = rw c.step-left.ensures (omega arith)

pub loop-left-preserved : goal.loop-left-preserved
loop-left-preserved c =
    let a = c.args in
    let l = c.loop-left in
    let k = l.left.taken in
    let more : k < a.ends.now.w = omega (arith, c.loop-left-test.true, c.requires.size) in
    let masked = c.args.ends.now.masked in
    let upper : l.left.upper < 2 ^ 64 = omega arith in
    rw c.step-left.ensures
    (standing_next a.planes.now a.ends.now.band l.left l.invariant c.loop-left-test.true (omega arith)
    (c.type_inv.planes k).fits upper
    _ _ _ refl (rw c.requires.size (masked.0 k more)) (rw c.requires.size (masked.1 k more)))

pub returns : goal.returns
returns c = c.told-2.ensures ∙ told_all _ _ c.loop-left.left c.loop-left.invariant c.loop-left-test.false
