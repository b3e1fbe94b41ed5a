-- `cahermisk::rooms::cahermisk_delta_bytes` meets its contract.
use mathlib.Core.Path.{◌≡◌, sym, ◌∙◌}
use Prim.Native.Nat.{◌≤◌}
use native.Mathlib.Omega.{arith}
use Rattle.answers.specs.Laws.{code_some}
use Rattle.rules.specs.Answer.{count_fault}
use Rattle.answers.specs.Laws.{within_count}
use Rattle.cahermisk.specs.Rooms.{within, beyond}
use Rattle.cahermisk.proofs.rooms.cahermisk_delta_bytes.Goals as goal

pub returns-in-Err : goal.returns-in-Err
returns-in-Err c =
    sym (beyond _ _ (λ none. code_some _ (c.in-Err.ensures ∙ none)))

pub overflow_add-result : goal.overflow_add-result
overflow_add-result c =
    let none : count_fault c.args.n ≡ 0 = sym c.in-Ok.ensures in
    let few : c.args.n ≤ 16384 = within_count c.args.n none in
    omega (arith, few)

pub overflow_mul-result : goal.overflow_mul-result
overflow_mul-result c =
    let none : count_fault c.args.n ≡ 0 = sym c.in-Ok.ensures in
    let few : c.args.n ≤ 16384 = within_count c.args.n none in
    omega (arith, few)

pub returns-in-Ok : goal.returns-in-Ok
returns-in-Ok c =
    let none : count_fault c.args.n ≡ 0 = sym c.in-Ok.ensures in
    let few : c.args.n ≤ 16384 = within_count c.args.n none in
    sym (within _ _ none ∙ omega (arith, few))
