-- `Places::write_one` meets its contract: the place holds the signed number.
use Rattle.std.proofs.Common.{◌∙◌, arith, w32}
use mir.ValLaws.{to_z-of_z}
use Rattle.delta_octets.specs.TwoWritings.{places-one}
use Rattle.delta_octets.proofs.writing.PlacesWriting.write_one.Goals as goal

pub returns : goal.returns
returns c =
    let a = c.args in
    let z = c.signed32 in
    places-one 32 a.i a.out.now a.x _ (omega arith)
    (to_z-of_z w32 z.result (record { sfits = z.type_inv }) ∙ z.ensures)
