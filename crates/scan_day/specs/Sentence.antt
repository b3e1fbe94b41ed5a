-- The sentence that tells an answer.
use Rattle.std.specs.Prelude.{cond, List, ◌++◌, ℕ, eqb}
use Rattle.lines.specs.Text.{ascii, decimal}
use Rattle.scan_day.specs.Clock.{clock_time}
use Rattle.std.proofs.Common.{Option, None, Some}
use Rattle.scan_day.specs.declared.passing.Ends.{Ends}
use Rattle.scan_day.specs.declared.passing.Passed.{Passed}

-- those that are selected, of so many that were read, if any are
unfoldable pub selected_of : ℕ → ℕ → ℕ → Option Ends → List ℕ
selected_of day read count None = ascii "none of " ++ (decimal read ++ ascii " seconds selected")
selected_of day read count (Some ends) =
    decimal count
    ++ (ascii " of " ++ (decimal read ++ (ascii " seconds selected, the first at "
    ++ (clock_time day ends.first ++ (ascii ", the last at " ++ clock_time day ends.last)))))

-- the column begins on a day
unfoldable pub sentence_of : ℕ → Passed → List ℕ
sentence_of day p = cond (eqb p.read 0) (ascii "no second was read") (selected_of day p.read p.count p.ends)
