-- `delta_octets::testing::test_whole` meets its contract: each turn tests an entry, kept as what it is above the
-- range's low end, and reaches the next.
use Rattle.std.proofs.Common.{◌≡◌, ◌*◌, ◌≤◌, sym, mul-le-mul_right, arith}
use Rattle.compare.specs.Range.{ranged}
use Rattle.delta_octets.specs.Octets.{tested-none, tested-fits, tested-more, octet_above}
use Rattle.delta_octets.proofs.testing.test_whole.Goals as goal
use Rattle.delta_octets.proofs.testing.test_whole.Goals.{After-passes_above}

pub loop-j-init : goal.loop-j-init
loop-j-init c = tested-none _ _ _ _

pub overflow_add-bits : goal.overflow_add-bits
overflow_add-bits c =
    let l = c.loop-j in
    record {
      fits = tested-fits _ _ _ _ l.j l.bits l.y c.passes_above.result l.invariant (omega arith)
          c.passes_above.ensures;
    }

-- the entry's window ends within the body
low : (c : After-passes_above)
    → let l = c.loop-j in
    let a = c.args in
    l.j * a.w ≤ 7 * a.w
low c = mul-le-mul_right _ (omega arith)

pub overflow_mul-j : goal.overflow_mul-j
overflow_mul-j c = omega (arith, low c)

pub stepped_in-y-requires : goal.stepped_in-y-requires
stepped_in-y-requires c = omega (arith, low c)

pub loop-j-preserved : goal.loop-j-preserved
loop-j-preserved c =
    let l = c.loop-j in
    tested-more _ _ _ _ l.j l.bits l.y c.stepped_in-y.result c.passes_above.result
    l.invariant (omega arith) c.passes_above.ensures c.stepped_in-y.ensures

pub returns : goal.returns
returns c =
    let l = c.loop-j in
    let d = c.wrapping_sub_u32-y in
    let a = c.args in
    let all : l.j ≡ 8 = omega arith in
    octet_above 32 8 (ranged a.range) a.from _ a.range.low _ l.bits l.y _ (sym d.ensures.value)
    (rw all at l.invariant) c.wrapping_add_u32.ensures.value
