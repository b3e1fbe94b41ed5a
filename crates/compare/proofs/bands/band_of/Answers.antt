-- `compare::bands::band_of` meets its contract: arm k is row k of the table, and the numbers above the arms are
-- past its end.
use Rattle.std.specs.Prelude.{Some, None}
use Rattle.std.proofs.Common.{◌≤◌, map, sym, arith, w64}
use lib.ListN.{get_or-eq_default}
use mir.ValLaws.{to_z-of_z}
use Rattle.compare.specs.Band.{bands, band_of}
use Rattle.compare.proofs.bands.band_of.Goals as goal
use Rattle.compare.proofs.bands.band_of.Goals.{in-0, in-1, in-2, in-3, in-4, in-5, in-6, in-7}

pub returns-in-8-to-4294967295 : goal.returns-in-8-to-4294967295
unfolding band_of bands
returns-in-8-to-4294967295 c =
    let above : 8 ≤ c.args.op = omega arith in
    sym (get_or-eq_default (map Some (bands c.args.a c.args.b)) None {n = c.args.op} above)

pub returns : goal.returns
unfolding band_of bands
returns c =
    let a = to_z-of_z w64 c.args.a c.ranges.a in
    let b = to_z-of_z w64 c.args.b c.ranges.b in
    elim c.match-op.branch [
      | in-0 w ↦ rw (w.low-is, a, a, w.in-0.is)
      | in-1 w ↦ rw (w.low-is, a, a, w.in-1.is)
      | in-2 w ↦ rw (w.low-is, a, a, w.in-2.is)
      | in-3 w ↦ rw (w.low-is, a, a, w.in-3.is)
      | in-4 w ↦ rw (w.low-is, a, a, w.in-4.is)
      | in-5 w ↦ rw (w.low-is, a, a, w.in-5.is)
      | in-6 w ↦ rw (w.low-is, a, a, b, b, w.in-6.is)
      | in-7 w ↦ rw (w.low-is, a, a, b, b, w.in-7.is)
    ]
