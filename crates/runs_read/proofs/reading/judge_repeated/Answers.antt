-- `runs_read::reading::judge_repeated` meets its contract: its tests are those of the rule.
use Prim.Native.Nat.{◌^◌}
use native.Mathlib.Omega.{arith}
use borrow.Author.Tests.{lt-ltb, le-ltb}
use Rattle.rules.specs.Bits.{ceil}
use Rattle.words.specs.Bits.{one_shl}
use Rattle.runs_read.proofs.reading.judge_repeated.Goals as goal

pub returns-then-left-count : goal.returns-then-left-count
returns-then-left-count c = let a = c.args in rw (lt-ltb a.left a.count (omega arith))

pub returns-then-len-w : goal.returns-then-len-w
returns-then-len-w c =
    let a = c.args in
    rw (le-ltb a.left a.count (omega arith), lt-ltb a.len (ceil a.w 8) (omega arith))

pub returns-then-w-value : goal.returns-then-w-value
returns-then-w-value c =
    let a = c.args in
    let shl = one_shl 64 a.w (omega arith) in
    rw (
      le-ltb a.left a.count (omega arith),
      le-ltb a.len (ceil a.w 8) (omega arith),
      le-ltb a.value (2 ^ a.w) (omega arith),
    )

pub returns : goal.returns
returns c =
    let a = c.args in
    let shl = one_shl 64 a.w (omega arith) in
    rw (
      le-ltb a.left a.count (omega arith),
      le-ltb a.len (ceil a.w 8) (omega arith),
      lt-ltb a.value (2 ^ a.w) (omega arith),
    )
