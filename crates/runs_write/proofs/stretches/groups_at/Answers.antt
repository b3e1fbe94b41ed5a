-- `runs_write::stretches::groups_at` meets its contract: the groups passed, and those that the rest of the 63 take
-- from here on.
use mathlib.Core.Path.{◌≡◌, ◌∙◌}
use Prim.Native.Nat.{suc, ◌+◌, ◌-◌, ◌*◌}
use native.Mathlib.Omega.{arith}
use lib.ListN.{drop}
use Rattle.runs_write.specs.Cuts.{groups_le}
use Rattle.runs_write.specs.Places.{groups-more, groups-past, groups_closed}
use Rattle.runs_write.proofs.stretches.groups_at.Goals as goal
use Rattle.runs_write.proofs.stretches.groups_at.Goals.{then-entries-at-via-then-entries-at, then-entries-at-via-else-entries-at+then-stretch_at-ge8}

pub returns-then-entries-at : goal.returns-then-entries-at
returns-then-entries-at c =
    let s = c.args.entries.now in
    let g = c.loop-groups.groups in
    let at = c.args.p + 8 * g in
    elim c.then-entries-at.branch [
      | then-entries-at-via-then-entries-at w ↦ omega (arith, groups-past s (63 - g) at w.if-entries-at.true)
      | then-entries-at-via-else-entries-at+then-stretch_at-ge8 w ↦ omega (arith, groups_closed (63 - g) (drop at s) (omega arith))
    ]

pub loop-groups-preserved : goal.loop-groups-preserved
loop-groups-preserved c =
    let l = c.loop-groups in
    let at = c.args.p + 8 * l.groups in
    let left : 63 - l.groups ≡ suc (62 - l.groups) = omega arith in
    let later : 63 - (l.groups + 1) ≡ 62 - l.groups = omega arith in
    let next : c.args.p + 8 * (l.groups + 1) ≡ at + 8 = omega arith in
    let turn = groups-more c.args.entries.now (62 - l.groups) at (omega arith) (omega arith) in
    l.invariant ∙ rw (left, later, next, turn) (omega arith)

pub returns : goal.returns
returns c =
    let g = c.loop-groups.groups in
    omega (arith, groups_le (63 - g) (drop (c.args.p + 8 * g) c.args.entries.now))
