-- `Range::write_one` meets its contract: a byte of the bitmap holds the test's answer.
use Rattle.std.proofs.Common.{arith}
use Rattle.compare.specs.Range.{ranged}
use Rattle.delta_octets.specs.TwoWritings.{selects-bit}
use Rattle.delta_octets.proofs.writing.RangeWriting.write_one.Goals as goal

pub returns : goal.returns
returns c =
    let a = c.args in
    selects-bit (ranged a.self) a.i a.out.now a.x c.passes.result (omega arith) c.passes.ensures
