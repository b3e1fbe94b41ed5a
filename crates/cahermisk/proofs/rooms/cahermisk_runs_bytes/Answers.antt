-- `cahermisk::rooms::cahermisk_runs_bytes` meets its contract.
use mathlib.Core.Path.{◌≡◌, sym, ◌∙◌}
use Prim.Native.Nat.{◌+◌, ◌/◌}
use native.Mathlib.Nat.{mul-le-mul}
use native.Mathlib.Omega.{arith}
use borrow.Author.Rules.{rules}
use Rattle.answers.specs.Laws.{code_some}
use Rattle.rules.specs.Answer.{limit_fault}
use Rattle.answers.specs.Laws.{within-limits}
use Rattle.cahermisk.specs.Rooms.{within, beyond}
use Rattle.cahermisk.proofs.rooms.cahermisk_runs_bytes.Goals as goal

pub returns-in-Err : goal.returns-in-Err
returns-in-Err c =
    sym (beyond _ _ (λ none. code_some _ (c.in-Err.ensures ∙ none)))

pub overflow_add-result : goal.overflow_add-result
overflow_add-result c =
    let none : limit_fault c.args.width c.args.n ≡ 0 =
    sym c.in-Ok.ensures in
    let k = within-limits _ _ none in omega arith

pub overflow_mul-result : goal.overflow_mul-result
overflow_mul-result c =
    let none : limit_fault c.args.width c.args.n ≡ 0 =
    sym c.in-Ok.ensures in
    let k = within-limits _ _ none in
    let a = c.args in
    omega
    (arith, mul-le-mul {n₁ = (a.n + 7) / 8} {m₁ = a.width + 1} {n₂ = 2048} {m₂ = 33} (omega arith) (omega arith))

pub returns-in-Ok : goal.returns-in-Ok
returns-in-Ok c =
    let none : limit_fault c.args.width c.args.n ≡ 0 =
    sym c.in-Ok.ensures in
    sym (within _ _ none)
