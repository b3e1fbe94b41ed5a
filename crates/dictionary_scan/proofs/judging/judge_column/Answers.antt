-- `dictionary_scan::judging::judge_column` meets its contract: the faults in their order.
use mathlib.Core.Path.{sym, ◌∙◌}
use native.Mathlib.Omega.{arith}
use borrow.Author.Rules.{rules}
use Rattle.rules.specs.Dictionary.{index_fault, column_fault}
use Rattle.answers.specs.Laws.{then_judged, then_refused, passed_up}
use Rattle.dictionary_scan.specs.Values.{good-dictionary}
use Rattle.dictionary_scan.proofs.judging.judge_column.Goals as goal

pub returns-in_err-judge_dictionary : goal.returns-in_err-judge_dictionary
unfolding column_fault
returns-in_err-judge_dictionary c =
    rw (passed_up _ _ c.from_residual.ensures) (sym (then_refused _ _ _ c.in_err-judge_dictionary.ensures))

pub judge_page-requires : goal.judge_page-requires
judge_page-requires c =
    let good = good-dictionary _ (sym c.in_ok-judge_dictionary.ensures) in
    (search rules, omega (arith, good.short))

pub returns : goal.returns
unfolding column_fault index_fault
returns c = c.judge_page.ensures ∙ sym (then_judged _ _ c.in_ok-judge_dictionary.ensures)
