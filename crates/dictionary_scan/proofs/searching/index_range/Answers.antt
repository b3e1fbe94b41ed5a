-- `dictionary_scan::searching::index_range` meets its contract: the band's ends are read back from their bits, and
-- no place is past 16,384.
use mathlib.Core.Path.{◌∙◌}
use mathlib.Core.Bool.{true, false}
use native.Mathlib.Omega.{arith}
use mir.Syntax.{w64}
use mir.Val.{SFits, to_z, of_z}
use mir.ValLaws.{to_z-of_z}
use Rattle.dictionary_scan.specs.ValuePlaces.{place_le, index_range}
use Rattle.dictionary_scan.proofs.searching.index_range.Goals as goal

pub range_to-requires : goal.range_to-requires
range_to-requires c =
    let high = to_z w64 (of_z w64 c.args.band.high) in
    omega (
      arith,
      c.place_of-to.ensures,
      place_le c.args.dict.now c.requires true high,
      place_le c.args.dict.now c.requires false high,
    )

pub returns : goal.returns
unfolding index_range
returns c =
    let band = c.args.band in
    let low : SFits w64 band.low = record { sfits = omega arith } in
    let high : SFits w64 band.high = record { sfits = omega arith } in
    c.range_to.ensures
    ∙ rw (
      c.place_of-from.ensures,
      c.place_of-to.ensures,
      to_z-of_z w64 band.low low,
      to_z-of_z w64 band.high high,
    )
