-- `dictionary_scan::values::value_any` meets its contract: past a whole number of values there are no bytes.
use mathlib.Core.Path.{sym}
use native.Mathlib.Omega.{arith}
use Rattle.dictionary_scan.specs.Values.{value-past}
use Rattle.dictionary_scan.proofs.values.value_any.Goals as goal

pub returns-else-i-dict : goal.returns-else-i-dict
returns-else-i-dict c = sym (value-past _ _ (omega arith))
