-- `packed_entries::judging::judge_entries` meets its contract: the entries are judged before the room.
use mathlib.Core.Path.{sym, ap, ◌∙◌}
use native.Mathlib.Omega.{arith}
use Rattle.rules.specs.Answer.{faulty, large_fault}
use Rattle.answers.specs.Laws.{then_found, then_none}
use Rattle.packed_entries.proofs.judging.judge_entries.Goals as goal

pub returns-then-any_large : goal.returns-then-any_large
unfolding large_fault
returns-then-any_large c =
    sym
    (then_found _ _ 8 (ap (λ t. faulty t 8) (sym c.any_large.ensures ∙ c.if-any_large.true))
    (λ e. omega arith))

pub returns-else-any_large : goal.returns-else-any_large
unfolding large_fault
returns-else-any_large c =
    c.judge_room.ensures
    ∙ sym
    (then_none _ _ (ap (λ t. faulty t 8) (sym c.any_large.ensures ∙ c.if-any_large.false)))
