-- `dictionary_scan::values::value_at` meets its contract: the four bytes' number, as a signed one.
use mathlib.Core.Path.{ap, ◌∙◌}
use mir.Syntax.{w32}
use mir.ValLaws.{to_z-of_z}
use Rattle.rules.specs.Signed.{signed}
use Rattle.rules.specs.Dictionary.{value}
use Rattle.dictionary_scan.proofs.values.value_at.Goals as goal

pub returns : goal.returns
unfolding value
returns c =
    to_z-of_z w32 c.signed32.result (record { sfits = c.signed32.type_inv }) ∙ c.signed32.ensures
    ∙ ap (signed 32) c.load4.ensures
