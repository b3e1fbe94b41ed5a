-- `delta_octets::steps::raised_number` meets its contract: the number's sign passes through the call.
use Rattle.std.proofs.Common.{ap, ◌∙◌, w64}
use mir.ValLaws.{to_z-of_z}
use Rattle.signed.specs.Raised.{raised}
use Rattle.delta_octets.proofs.steps.raised_number.Goals as goal

pub returns : goal.returns
returns c =
    let z = c.unzig in
    c.raised32.ensures ∙ ap (raised 32) (to_z-of_z w64 z.result (record { sfits = z.type_inv }) ∙ z.ensures)
