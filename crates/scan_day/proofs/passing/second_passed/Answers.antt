-- `scan_day::passing::second_passed` meets its contract: read, and selected where it is.
use mathlib.Core.Path.{◌≡◌, ◌∙◌, ap, refl}
use mathlib.Core.Bool.{true, false}
use Rattle.scan_day.specs.SecondsPassed.{selecting}
use Rattle.scan_day.proofs.passing.second_passed.Goals as goal

pub returns-then-is_selected : goal.returns-then-is_selected
returns-then-is_selected c =
    let a = c.args in
    let yes : a.is_selected ≡ true = c.if-is_selected.true in
    record {
      value = rw yes (c.selects.ensures ∙ ap (selecting a.second) c.reads-passed.ensures);
      selected_after = rw yes c.counted-then-is_selected.ensures;
      answered_after = c.counted.ensures;
    }

pub returns-else-is_selected : goal.returns-else-is_selected
returns-else-is_selected c =
    let a = c.args in
    let no : a.is_selected ≡ false = c.if-is_selected.false in
    record { value = rw no c.reads-passed.ensures; selected_after = rw no refl; answered_after = c.counted.ensures }
