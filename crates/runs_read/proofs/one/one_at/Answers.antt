-- `runs_read::one::one_at` meets its contract: each refusal is a law of the rule, and what is left is the run at
-- the place.
use mathlib.Core.Path.{◌≡◌, sym, ap, ◌∙◌}
use native.Mathlib.Omega.{arith}
use Rattle.rules.specs.Answer.{limit_fault}
use Rattle.rules.specs.Runs.Run.{Refused}
use Rattle.answers.specs.Laws.{code_some, passed_up, within-limits}
use Rattle.runs_read.specs.One.{one_limited, one-past, one-covered, one-read}
use Rattle.runs_read.proofs.one.one_at.Goals as goal

pub returns-in_err-judge_unsigned : goal.returns-in_err-judge_unsigned
returns-in_err-judge_unsigned c =
    let j = c.in_err-judge_unsigned in
    rw (passed_up _ _ c.from_residual.ensures) (ap Refused j.ensures ∙ sym (one_limited _ _ _ _ _ (λ z. code_some _ (j.ensures ∙ z))))

pub returns-then-page-at : goal.returns-then-page-at
returns-then-page-at c =
    let a = c.args in
    let limits : limit_fault a.w a.n ≡ 0 = sym c.in_ok-judge_unsigned.ensures in
    sym (one-past _ _ _ _ _ limits c.if-page-at.true)

pub returns-then-n-covered : goal.returns-then-n-covered
returns-then-n-covered c =
    let a = c.args in
    let limits : limit_fault a.w a.n ≡ 0 = sym c.in_ok-judge_unsigned.ensures in
    sym (one-covered _ _ _ _ _ limits c.if-page-at.false c.if-n-covered.true)

pub run_at-requires : goal.run_at-requires
run_at-requires c =
    let a = c.args in
    let limits : limit_fault a.w a.n ≡ 0 = sym c.in_ok-judge_unsigned.ensures in
    let l = within-limits a.w a.n limits in
    (l.0, omega arith)

pub returns : goal.returns
returns c =
    let a = c.args in
    let limits : limit_fault a.w a.n ≡ 0 = sym c.in_ok-judge_unsigned.ensures in
    c.run_at.ensures
    ∙ sym
    (one-read _ _ _ _ _ limits c.if-page-at.false c.if-n-covered.false)
