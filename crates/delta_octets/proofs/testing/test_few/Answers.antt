-- `delta_octets::testing::test_few` meets its contract: each turn tests an entry and reaches the next.
use Rattle.std.proofs.Common.{◌≡◌, ◌+◌, mul-le-mul, arith}
use Rattle.delta_octets.specs.Octets.{tested-none, tested-fits, tested-more, tested_octet}
use Rattle.delta_octets.proofs.testing.test_few.Goals as goal

pub loop-j-init : goal.loop-j-init
loop-j-init c = tested-none _ _ _ _

pub overflow_add-bits : goal.overflow_add-bits
overflow_add-bits c =
    let l = c.loop-j in
    record {
      fits = tested-fits _ _ _ _ l.j l.bits l.x c.passes.result l.invariant (omega arith)
          c.passes.ensures;
    }

pub overflow_mul-i : goal.overflow_mul-i
overflow_mul-i c =
    let a = c.args in
    let l = c.loop-j in
    omega (arith, mul-le-mul {n₁ = a.i + l.j} {m₁ = a.w} {n₂ = 16392} {m₂ = 32} (omega arith) (omega arith))

pub loop-j-preserved : goal.loop-j-preserved
loop-j-preserved c =
    let l = c.loop-j in
    tested-more _ _ _ _ l.j l.bits l.x c.stepped-x.result c.passes.result l.invariant
    (omega arith) c.passes.ensures c.stepped-x.ensures

pub returns : goal.returns
returns c =
    let l = c.loop-j in
    let all : l.j ≡ c.args.k = omega arith in
    tested_octet _ _ _ _ _ l.bits l.x (rw all at l.invariant)
