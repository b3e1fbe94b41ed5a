-- `spans_mark::to_bitmap::judge_list` meets its contract: each fault where none was found before it.
use mathlib.Core.Path.{◌≡◌, sym, ap, ◌∙◌}
use mathlib.Core.Bool.{Bool, not}
use Prim.Native.Nat.{◌%◌}
use native.Mathlib.Omega.{arith}
use lib.Dec.{eqb}
use lib.ListN.{length}
use borrow.Author.Tests.{eq-eqb, ne_eqb}
use Rattle.rules.specs.Answer.{faulty}
use Rattle.answers.specs.Laws.{then_found, then_none, then_judged, then_refused, passed_up}
use Rattle.spans_mark.proofs.to_bitmap.judge_list.Goals as goal

pub returns-in_err-judge_signed : goal.returns-in_err-judge_signed
returns-in_err-judge_signed c =
    rw (passed_up _ _ c.from_residual.ensures) (sym (then_refused _ _ _ c.in_err-judge_signed.ensures))

pub returns-then-list-ne0 : goal.returns-then-list-ne0
returns-then-list-ne0 c =
    let odd = ap (λ (b : Bool). faulty (not b) 5) (ne_eqb _ _ c.if-list-ne0.true) in
    sym (then_judged _ _ c.in_ok-judge_signed.ensures ∙ then_found _ _ 5 odd (λ z. omega arith))

pub returns-in_err-judge_room : goal.returns-in_err-judge_room
returns-in_err-judge_room c =
    let even : faulty (not (eqb (length c.args.list.now % 2) 0)) 5 ≡ 0 =
    ap (λ (b : Bool). faulty (not b) 5) (eq-eqb _ _ c.if-list-ne0.false) in
    rw (passed_up _ _ c.from_residual-in_err-judge_room.ensures)
    (sym (then_judged _ _ c.in_ok-judge_signed.ensures ∙ then_none _ _ even
    ∙ then_refused _ _ _ c.in_err-judge_room.ensures))

pub returns-then-is_misplaced : goal.returns-then-is_misplaced
returns-then-is_misplaced c =
    let even : faulty (not (eqb (length c.args.list.now % 2) 0)) 5 ≡ 0 =
    ap (λ (b : Bool). faulty (not b) 5) (eq-eqb _ _ c.if-list-ne0.false) in
    sym (then_judged _ _ c.in_ok-judge_signed.ensures ∙ then_none _ _ even
    ∙ then_judged _ _ c.in_ok-judge_room.ensures
    ∙ ap (λ (b : Bool). faulty b 18) (sym c.is_misplaced.ensures ∙ c.if-is_misplaced.true))

pub returns : goal.returns
returns c =
    let even : faulty (not (eqb (length c.args.list.now % 2) 0)) 5 ≡ 0 =
    ap (λ (b : Bool). faulty (not b) 5) (eq-eqb _ _ c.if-list-ne0.false) in
    sym (then_judged _ _ c.in_ok-judge_signed.ensures ∙ then_none _ _ even
    ∙ then_judged _ _ c.in_ok-judge_room.ensures
    ∙ ap (λ (b : Bool). faulty b 18) (sym c.is_misplaced.ensures ∙ c.if-is_misplaced.false))
