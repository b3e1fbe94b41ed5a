-- `delta_octets::steps::kept_number` meets its contract: the number's sign passes through the call.
use Rattle.std.proofs.Common.{ap, ◌∙◌, w64}
use mir.ValLaws.{to_z-of_z}
use Rattle.rules.specs.Signed.{modulo}
use Rattle.delta_octets.proofs.steps.kept_number.Goals as goal

pub returns : goal.returns
returns c =
    let z = c.unzig in
    c.kept32.ensures ∙ ap (modulo 32) (to_z-of_z w64 z.result (record { sfits = z.type_inv }) ∙ z.ensures)
