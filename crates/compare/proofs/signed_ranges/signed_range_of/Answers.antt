-- `compare::signed_ranges::signed_range_of` meets its contract: the band's ends are read back from their bits, and
-- the last is at most 2^32.
use Rattle.std.proofs.Common.{◌∙◌, rules, w64}
use mir.ValLaws.{to_z-of_z}
use Rattle.compare.specs.SignedRange.{signed_range_of}
use Rattle.compare.specs.SignedCuts.{signed-next_le}
use Rattle.compare.proofs.signed_ranges.signed_range_of.Goals as goal

pub range_to-requires : goal.range_to-requires
range_to-requires c = rw c.next.ensures (signed-next_le 32 _)

pub returns : goal.returns
unfolding signed_range_of
returns c =
    let band = c.args.band in
    c.range_to.ensures
    ∙ rw (
      c.cut.ensures,
      c.next.ensures,
      to_z-of_z w64 band.low (search rules),
      to_z-of_z w64 band.high (search rules),
    )
