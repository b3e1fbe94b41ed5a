-- `runs_mark::same::mark_bytes` meets its contract: whole bytes, and the rest behind them.
use mathlib.Core.Path.{◌≡◌, ap, ◌∙◌}
use Prim.Native.Nat.{ℕ, ◌+◌, ◌*◌, ◌/◌, ◌%◌}
use native.Mathlib.Omega.{arith}
use Rattle.rules.specs.Bits.{word}
use Rattle.words.specs.Appended.{appended}
use Rattle.runs_mark.specs.SeveralGoes.{words_twice}
use Rattle.runs_mark.proofs.same.mark_bytes.Goals as goal

pub returns-else-m-ne0 : goal.returns-else-m-ne0
returns-else-m-ne0 c =
    let a = c.args in
    let all : 8 * (a.m / 8) ≡ a.m = omega arith in
    c.fill.ensures
    ∙ ap (λ (k : ℕ). appended a.bitmap.now (8 * a.a) (word k (λ _. a.selected)) k) all

pub returns-then-m-ne0 : goal.returns-then-m-ne0
returns-then-m-ne0 c =
    let a = c.args in
    let k = a.m / 8 in
    words_twice a.bitmap.now _ _ (8 * a.a) (8 * k) (a.m % 8) (8 * (a.a + k)) a.m (λ _. a.selected)
    (omega arith) (omega arith) (omega arith)
    c.fill.ensures
    c.mark_few.ensures
