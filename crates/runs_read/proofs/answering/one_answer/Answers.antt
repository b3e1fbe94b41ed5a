-- `runs_read::answering::one_answer` meets its contract: the answer is told by the numbers handed back and by how
-- long the part is.
use Rattle.runs_read.specs.Answering.{told-fits, told}
use Rattle.runs_read.proofs.answering.one_answer.Goals as goal
use Rattle.runs_read.proofs.answering.one_answer.Goals.{then-info-eq1, else-info-eq1}

pub overflow_sub-body_at : goal.overflow_sub-body_at
overflow_sub-body_at c = (told-fits _ _ _ _ _ c.one_run-body_len.ensures).3

pub overflow_cast-result : goal.overflow_cast-result
overflow_cast-result c = record { fits = (told-fits _ _ _ _ _ c.one_run-body_len.ensures).0 }

pub overflow_cast-result-2 : goal.overflow_cast-result-2
overflow_cast-result-2 c = record { fits = (told-fits _ _ _ _ _ c.one_run-body_len.ensures).1 }

pub overflow_cast-result-3 : goal.overflow_cast-result-3
overflow_cast-result-3 c = record { fits = (told-fits _ _ _ _ _ c.one_run-body_len.ensures).2 }

pub returns : goal.returns
returns c =
    told _ _ _ _ _ c.one_run-body_len.ensures
    (λ e. elim c.if-info-eq1.branch [
      | then-info-eq1 w ↦ w.body_at-is
      | else-info-eq1 w ↦ absurd (w.if-info-eq1.false e)
    ])
    (λ e. elim c.if-info-eq1.branch [
      | then-info-eq1 w ↦ absurd (e w.if-info-eq1.true)
      | else-info-eq1 w ↦ w.body_at-is
    ])
