-- `Range::write_octet` meets its contract: a byte of the bitmap holds the tests' answers.
use Rattle.std.proofs.Common.{◌+◌, arith}
use Rattle.compare.specs.Range.{ranged}
use Rattle.delta_octets.specs.Steps.{packed_step}
use Rattle.delta_octets.specs.Octets.{octet_small, octet-passed}
use Rattle.delta_octets.proofs.writing.RangeWriting.write_octet.Goals as goal

pub overflow_cast-out : goal.overflow_cast-out
overflow_cast-out c =
    record { fits = octet_small 32 _ _ _ _ c.test_octet-octet.result c.requires.3 c.test_octet-octet.ensures }

pub returns : goal.returns
returns c =
    let a = c.args in
    let p = octet-passed 32 a.k (ranged a.self) a.from (λ u. packed_step a.least a.body.now a.w (a.j + u))
    c.test_octet-octet.result c.requires.3 c.test_octet-octet.ensures a.i a.out.now c.requires.2 (omega arith) in
    record { entry = p.entry; wrote = p.wrote }
