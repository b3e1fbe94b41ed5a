-- `varints::writing::put_number` meets its contract: each turn stores seven bits, and what is left is to be put
-- behind them.
use mathlib.Core.Path.{refl, ◌∙◌}
use native.Mathlib.Omega.{arith}
use lib.ListN.{length-set}
use Rattle.varints.specs.Shortness.{shortest-some}
use Rattle.varints.specs.Stored.{stored_more, stored_last}
use Rattle.varints.proofs.writing.put_number.Goals as goal

pub loop-rest-init : goal.loop-rest-init
loop-rest-init c = (refl, refl, refl)

pub bounds-page-i : goal.bounds-page-i
bounds-page-i c = omega (arith, shortest-some c.loop-rest.rest)

pub overflow_add-i : goal.overflow_add-i
overflow_add-i c = omega (arith, shortest-some c.loop-rest.rest)

pub loop-rest-preserved : goal.loop-rest-preserved
loop-rest-preserved c =
    let l = c.loop-rest in
    let s = stored_more l.page l.i l.rest c.loop-rest-test.true (omega arith) in
    (simp length-set l.invariant.0, s.0 ∙ l.invariant.1, s.1 ∙ l.invariant.2)

pub bounds-page-i-2 : goal.bounds-page-i-2
bounds-page-i-2 c = omega (arith, shortest-some c.loop-rest.rest)

pub overflow_add-result : goal.overflow_add-result
overflow_add-result c = omega (arith, shortest-some c.loop-rest.rest)

pub shape_of-page : goal.shape_of-page
shape_of-page c = simp length-set (omega arith)

pub returns : goal.returns
returns c =
    let l = c.loop-rest in
    let s = stored_last l.page l.i l.rest c.loop-rest-test.false (omega arith) in
    record { stored = s.0 ∙ l.invariant.1; next = s.1 ∙ l.invariant.2 }
