-- `runs_mark::same::mark_same` meets its contract: all at once where they are few, else the entries up to the next
-- byte, and the others behind them.
use Prim.Native.Nat.{◌+◌, ◌-◌, ◌*◌, ◌/◌, ◌%◌}
use native.Mathlib.Omega.{arith}
use Rattle.runs_mark.specs.SeveralGoes.{words_twice}
use Rattle.runs_mark.proofs.same.mark_same.Goals as goal

pub returns-else-m-le56 : goal.returns-else-m-le56
returns-else-m-le56 c =
    let a = c.args in
    let first = 8 - a.p % 8 in
    words_twice a.bitmap.now _ _ a.p first (a.m - first) (8 * (a.p / 8 + 1)) a.m (λ _. a.selected)
    (omega arith) (omega arith) (omega arith)
    c.mark_few-else-m-le56.ensures
    c.mark_bytes.ensures
