-- `vertical_planes::four::compare_four` meets its contract.
use mathlib.Core.Path.{refl, sym, ap, ◌∙◌}
use Prim.Native.Nat.{ℕ, ◌+◌, ◌^◌, ◌<◌}
use native.Mathlib.Omega.{arith}
use Rattle.vertical_planes.specs.Standing.{stepped, Standing}
use Rattle.vertical_planes.specs.FourNext.{in_step, all_open, all_or_none, next_of}
use Rattle.vertical_planes.proofs.four.compare_four.Goals as goal
use Rattle.vertical_planes.proofs.four.compare_four.Goals.{then-in_step+then-loop-four-test+else-all_open}
use Rattle.vertical_planes.proofs.four.compare_four.Goals.{then-in_step+else-loop-four-test, else-in_step}

pub loop-four-init : goal.loop-four-init
loop-four-init c = (
  in_step _ _ _ _ (sym c.in_step.ensures ∙ c.if-in_step.true),
  (c.begin.ensures, c.begin-2.ensures, c.begin-3.ensures, c.begin-4.ensures),
)

pub step_four-four-requires : goal.step_four-four-requires
step_four-four-requires c =
    let same = c.loop-four.invariant.0 in
    let i = c.loop-four.four.first.taken in
    let more : i < c.args.ends.now.w = omega (arith, c.loop-four-test.true, c.requires.0) in
    let masked = c.args.ends.now.masked in
    record {
      few = omega (arith, same);
      laid = (
        all_or_none _ _ _ (masked.0 i more),
        all_or_none _ _ _ (masked.1 i more),
      );
    }

pub loop-four-smaller : goal.loop-four-smaller
unfolding stepped
loop-four-smaller c = rw c.step_four-four.ensures (omega arith)

pub loop-four-preserved : goal.loop-four-preserved
unfolding stepped
loop-four-preserved c =
    let a = c.args in
    let f = c.loop-four.four in
    let i = f.first.taken in
    let same = c.loop-four.invariant.0 in
    let stand = c.loop-four.invariant.1 in
    let more : i < a.ends.now.w = omega (arith, c.loop-four-test.true, c.requires.0) in
    let some : (0 < f.first.undecided) × (0 < f.second.undecided) × (0 < f.third.undecided)
    × (0 < f.fourth.undecided) =
    all_open f.first.undecided f.second.undecided f.third.undecided f.fourth.undecided (cc) in
    let upper : (f.first.upper < 2 ^ 64) × (f.second.upper < 2 ^ 64) × (f.third.upper < 2 ^ 64)
    × (f.fourth.upper < 2 ^ 64) = (omega arith, omega arith, omega arith, omega arith) in
    let r = c.planes_at.result in
    let fits : (r.first < 2 ^ 64) × (r.second < 2 ^ 64) × (r.third < 2 ^ 64) × (r.fourth < 2 ^ 64) =
    (omega arith, omega arith, omega arith, omega arith) in
    let small = rw c.planes_at.ensures at fits in
    let w = a.ends.now.w in
    let masked = c.args.ends.now.masked in
    rw (c.step_four-four.ensures, c.planes_at.ensures) (
      (ap (λ (k : ℕ). k + 1) same.0, ap (λ (k : ℕ). k + 1) same.1, ap (λ (k : ℕ). k + 1) same.2),
      (
        next_of a.groups.first.now a.ends.now.lows.now a.ends.now.apart.now a.ends.now.band w i c.requires.0 more masked
            f.first refl some.0 small.0 upper.0 stand.0,
        next_of a.groups.second.now a.ends.now.lows.now a.ends.now.apart.now a.ends.now.band w i c.requires.1 more masked
            f.second same.0 some.1 small.1 upper.1 stand.1,
        next_of a.groups.third.now a.ends.now.lows.now a.ends.now.apart.now a.ends.now.band w i c.requires.2 more masked
            f.third same.1 some.2 small.2 upper.2 stand.2,
        next_of a.groups.fourth.now a.ends.now.lows.now a.ends.now.apart.now a.ends.now.band w i c.requires.3 more masked
            f.fourth same.2 some.3 small.3 upper.3 stand.3,
      ),
    )

pub finish-requires : goal.finish-requires
finish-requires c =
    let a = c.args in
    let standing : Standing a.groups.first.now a.ends.now.band c.if-in_step.four.first =
    elim c.if-in_step.branch [
      | then-in_step+then-loop-four-test+else-all_open w ↦ rw w.four-is w.loop-four.invariant.1.0
      | then-in_step+else-loop-four-test w ↦ rw w.four-is w.loop-four.invariant.1.0
      | else-in_step w ↦ rw w.four-is c.begin.ensures
    ] in
    record { size = omega arith; standing = standing }

pub finish-requires-2 : goal.finish-requires-2
finish-requires-2 c =
    let a = c.args in
    let standing : Standing a.groups.second.now a.ends.now.band c.if-in_step.four.second =
    elim c.if-in_step.branch [
      | then-in_step+then-loop-four-test+else-all_open w ↦ rw w.four-is w.loop-four.invariant.1.1
      | then-in_step+else-loop-four-test w ↦ rw w.four-is w.loop-four.invariant.1.1
      | else-in_step w ↦ rw w.four-is c.begin-2.ensures
    ] in
    record { size = omega arith; standing = standing }

pub finish-requires-3 : goal.finish-requires-3
finish-requires-3 c =
    let a = c.args in
    let standing : Standing a.groups.third.now a.ends.now.band c.if-in_step.four.third =
    elim c.if-in_step.branch [
      | then-in_step+then-loop-four-test+else-all_open w ↦ rw w.four-is w.loop-four.invariant.1.2
      | then-in_step+else-loop-four-test w ↦ rw w.four-is w.loop-four.invariant.1.2
      | else-in_step w ↦ rw w.four-is c.begin-3.ensures
    ] in
    record { size = omega arith; standing = standing }

pub finish-requires-4 : goal.finish-requires-4
finish-requires-4 c =
    let a = c.args in
    let standing : Standing a.groups.fourth.now a.ends.now.band c.if-in_step.four.fourth =
    elim c.if-in_step.branch [
      | then-in_step+then-loop-four-test+else-all_open w ↦ rw w.four-is w.loop-four.invariant.1.3
      | then-in_step+else-loop-four-test w ↦ rw w.four-is w.loop-four.invariant.1.3
      | else-in_step w ↦ rw w.four-is c.begin-4.ensures
    ] in
    record { size = omega arith; standing = standing }

pub returns : goal.returns
returns c = rw (c.finish.ensures, c.finish-2.ensures, c.finish-3.ensures, c.finish-4.ensures)
