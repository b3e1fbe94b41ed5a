-- `runs_read::reading::packed_at` meets its contract: its fault is that of the rule, on the length of the page's
-- rest.
use mathlib.Core.Bool.{true}
use Prim.Native.Nat.{◌+◌, ◌*◌, ◌≤◌}
use native.Mathlib.Nat.{mul-le-mul_right}
use native.Mathlib.Omega.{arith}
use lib.Dec.{ltb}
use lib.ListN.{length}
use borrow.Author.Tests.{ltb-false}
use Rattle.rules.specs.Runs.{packed_at}
use mathlib.Core.Path.{refl}
use Rattle.answers.specs.Laws.{code_some, passed_up}
use Rattle.runs_read.specs.Parts.{part_size}
use Rattle.runs_read.specs.Bodies.{faulty-body, good-body, passed}
use Rattle.runs_read.proofs.reading.packed_at.Goals as goal
use Rattle.runs_read.proofs.reading.packed_at.Goals.{In_ok-judge_packed}

pub returns-in_err-judge_packed : goal.returns-in_err-judge_packed
unfolding packed_at
returns-in_err-judge_packed c page e =
    let a = c.args in
    rw (passed_up _ _ c.from_residual.ensures, part_size page a.at e)
    (faulty-body (ltb (a.left + 7) (8 * a.groups)) (ltb (length a.part.now) (a.w * a.groups)) true _
    c.in_err-judge_packed.ensures (code_some _))

-- without a fault the groups are not past n, and all there
there : (c : In_ok-judge_packed)
    → let a = c.args in
    (8 * a.groups ≤ a.left + 7) × (a.w * a.groups ≤ length a.part.now)
there c =
    let a = c.args in
    let tests =
    passed (ltb (a.left + 7) (8 * a.groups)) (ltb (length a.part.now) (a.w * a.groups)) true
    c.in_ok-judge_packed.ensures refl in
    (ltb-false _ _ tests.0, ltb-false _ _ tests.1)

pub overflow_mul-result : goal.overflow_mul-result
overflow_mul-result c =
    let s = c in
    omega (arith, there c, mul-le-mul_right {n = 32} s.args.groups s.requires.0)

pub overflow_add-result : goal.overflow_add-result
overflow_add-result c = omega (arith, there c)

pub returns : goal.returns
unfolding packed_at
returns c page e =
    let a = c.args in
    rw (part_size page a.at e)
    (good-body (ltb (a.left + 7) (8 * a.groups)) (ltb (length a.part.now) (a.w * a.groups)) true _
    c.in_ok-judge_packed.ensures refl)
