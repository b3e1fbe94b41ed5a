-- `vertical_planes::lanes::begin` meets its contract: both ends as they start, then the planes that they share.
use mathlib.Core.Path.{◌≡◌}
use lib.ListN.{length}
use mir.Syntax.{w64}
use mir.Val.{to_z, of_z}
use borrow.Author.Rules.{rules}
use Rattle.vertical_planes.specs.Started.{Started, parted-before, within}
use Rattle.vertical_planes.proofs.lanes.begin.Goals as goal

pub returns-then-lower-upper-ne0 : goal.returns-then-lower-upper-ne0
returns-then-lower-upper-ne0 c =
    let a = c.args in
    let w = length a.planes.now in
    let low : to_z w64 (of_z w64 a.ends.now.band.low) ≡ a.ends.now.band.low = search rules in
    let high : to_z w64 (of_z w64 a.ends.now.band.high) ≡ a.ends.now.band.high = search rules in
    let lower : Started w a.ends.now.band.low c.start-lower.result = rw low at c.start-lower.ensures in
    let upper : Started w a.ends.now.band.high c.start-upper.result = rw high at c.start-upper.ensures in
    c.together.ensures a.ends.now.band (rw c.requires c.args.ends.now.masked)
    (within _ a.ends.now.band _ _ lower upper c.if-lower-upper-ne0.true)

pub returns : goal.returns
returns c =
    let a = c.args in
    let w = length a.planes.now in
    let low : to_z w64 (of_z w64 a.ends.now.band.low) ≡ a.ends.now.band.low = search rules in
    let high : to_z w64 (of_z w64 a.ends.now.band.high) ≡ a.ends.now.band.high = search rules in
    let lower : Started w a.ends.now.band.low c.start-lower.result = rw low at c.start-lower.ensures in
    let upper : Started w a.ends.now.band.high c.start-upper.result = rw high at c.start-upper.ensures in
    parted-before _ _ _ _ lower upper c.if-lower-upper-ne0.false
