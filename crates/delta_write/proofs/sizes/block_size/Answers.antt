-- `delta_write::sizes::block_size` meets its contract: the parts of a block by its numbers, filled up with 0.
use Rattle.std.proofs.Common.{◌≡◌, ◌+◌, length, take, drop, arith, length-take}
use Rattle.rules.specs.DeltaWriter.{deltas, block}
use Rattle.varints.specs.Shortness.{shortest-size}
use Rattle.delta_write.specs.Deltas.{deltas-within, within-take, within-drop}
use Rattle.delta_write.specs.Blocks.{numbered}
use Rattle.delta_write.specs.Sizes.{block_le}
use Rattle.delta_write.proofs.sizes.block_size.Goals as goal
use Rattle.delta_write.proofs.sizes.block_size.Goals.{After-bodies_size}

pub overflow_add-result : goal.overflow_add-result
overflow_add-result c =
    let p = c.put_numbers-smallest in
    omega (arith, c.size_of.ensures, (shortest-size 32 p.result p.type_inv).1)

-- all parts together
sized : (c : After-bodies_size) → let a = c.args in
    c.size_of.result + 4 + c.bodies_size.result
    ≡ length (block 32 (take a.k (drop a.from (deltas 32 a.entries.now))))
sized c =
    let s = c in
    let p = s in
    let a = p.args in
    let ds = take a.k (drop a.from (deltas 32 a.entries.now)) in
    let n = numbered 32 ds (rw length-take (omega arith)) p.put_numbers-smallest.ensures.stored
    p.put_numbers-smallest.ensures.smallest in
    omega (arith, s.size_of.ensures, c.bodies_size.ensures, n.size)

pub overflow_add-result-2 : goal.overflow_add-result-2
overflow_add-result-2 c =
    let a = c.args in
    let all = deltas-within 32 (omega arith) a.entries.now in
    let ds = deltas 32 a.entries.now in
    omega (
      arith,
      sized c,
      block_le 32 (omega arith) (take a.k (drop a.from ds))
          (within-take 32 (omega arith) a.k (drop a.from ds) (within-drop 32 (omega arith) a.from ds all)),
    )

pub returns : goal.returns
returns c = sized c
