-- `runs_read::reading::judge_packed` meets its contract: its tests are those of the rule; groups that are not past
-- n are few.
use Prim.Native.Nat.{◌+◌, ◌*◌}
use native.Mathlib.Nat.{mul-le-mul_right}
use native.Mathlib.Omega.{arith}
use borrow.Author.Tests.{lt-ltb, le-ltb}
use Rattle.runs_read.proofs.reading.judge_packed.Goals as goal

pub returns-then-left-groups : goal.returns-then-left-groups
returns-then-left-groups c = rw (lt-ltb (c.args.left + 7) (8 * c.args.groups) (omega arith))

pub overflow_mul-w : goal.overflow_mul-w
overflow_mul-w c = omega (arith, mul-le-mul_right {n = 32} c.args.groups c.requires.0)

pub returns-then-len-w : goal.returns-then-len-w
returns-then-len-w c =
    let a = c.args in
    rw (le-ltb (a.left + 7) (8 * a.groups) (omega arith), lt-ltb a.len (a.w * a.groups) (omega arith))

pub returns : goal.returns
returns c =
    let a = c.args in
    rw (le-ltb (a.left + 7) (8 * a.groups) (omega arith), le-ltb a.len (a.w * a.groups) (omega arith))
