-- `delta_decode::pages::write_blocks` meets its contract: a block more each turn, and then the entry that may be
-- left.
use mathlib.Core.Path.{◌≡◌}
use Prim.Native.Nat.{◌+◌, ◌/◌}
use native.Mathlib.Omega.{arith}
use Rattle.delta_read.specs.Shapes.{shape}
use Rattle.delta_read.specs.Needed.{needed_le}
use Rattle.delta_read.specs.BlockByBlock.{refused, never}
use Rattle.delta_decode.specs.PageEntries.{judged, pass_start, pass-next}
use Rattle.delta_decode.specs.PageEntries.{pass-last, pass-end}
use Rattle.delta_decode.proofs.Turns.{bounded, block_is}
use Rattle.delta_decode.proofs.pages.write_blocks.Goals as goal

pub nonzero_div-m : goal.nonzero_div-m
nonzero_div-m g c = let sh = shape _ _ c.requires.2 in omega arith

pub loop-left-init : goal.loop-left-init
loop-left-init g c =
    let a = c.args in
    pass_start (g.T.Writing.write a.writing) 32 a.page.now a.size a.minis a.n a.from _ a.out.now a.start c.requires.4
    (g.met.T.Writing.laws.starts a.writing 0 a.out.now)

pub needed_of-need-requires : goal.needed_of-need-requires
needed_of-need-requires g c =
    let sh = shape _ _ c.requires.2 in
    omega (arith, c.loop-left.invariant.rest)

pub block_at-requires : goal.block_at-requires
block_at-requires g c =
    let a = c.args in
    let sh = shape _ _ c.requires.2 in
    omega (arith, c.needed_of-need.ensures, needed_le a.minis (a.size / a.minis) c.loop-left.left)

pub overflow_add-needed : goal.overflow_add-needed
overflow_add-needed g c =
    let l = c.loop-left in
    let a = c.args in
    let laid = block_is a.size a.minis l.left a.page.now l.at c.needed_of-need.ensures c.in-Ok.ensures in
    omega (arith, (judged 32 a.size a.minis l.left a.page.now l.at _ _ _ (shape _ _ c.requires.2) laid).within)

pub overflow_add-left : goal.overflow_add-left
overflow_add-left g c = omega (arith, c.loop-left.invariant.rest)

pub write_block-x-requires : goal.write_block-x-requires
write_block-x-requires g c =
    let l = c.loop-left in
    let a = c.args in
    let laid = block_is a.size a.minis l.left a.page.now l.at c.needed_of-need.ensures c.in-Ok.ensures in
    let p = l.invariant in
    let here : 0 + l.i ≡ l.i = omega arith in (
      rw c.needed_of-need.ensures
          (judged 32 a.size a.minis l.left a.page.now l.at _ _ _ (shape _ _ c.requires.2) laid),
      omega (arith, p.rest),
      rw here at
          (g.met.T.Writing.laws.part a.writing 0 a.n l.i (l.left + 1) a.out.now l.out c.requires.3 l.auto.out p.eights
          (omega (arith, p.rest))),
    )

pub overflow_mul-i : goal.overflow_mul-i
overflow_mul-i g c =
    omega (
      arith,
      bounded (shape _ _ c.requires.2) c.loop-left-test.true c.loop-left.invariant c.needed_of-need.ensures
          c.requires.1,
    )

pub overflow_add-i : goal.overflow_add-i
overflow_add-i g c =
    omega (
      arith,
      bounded (shape _ _ c.requires.2) c.loop-left-test.true c.loop-left.invariant c.needed_of-need.ensures
          c.requires.1,
    )

pub loop-left-smaller : goal.loop-left-smaller
loop-left-smaller g c =
    let sh = shape _ _ c.requires.2 in
    omega (arith, c.saturating_sub-left.ensures)

pub loop-left-preserved : goal.loop-left-preserved
loop-left-preserved g c =
    let l = c.loop-left in
    let a = c.args in
    let e = c.needed_of-need.ensures in
    let s = c.write_block-x.ensures in
    let laid = block_is a.size a.minis l.left a.page.now l.at e c.in-Ok.ensures in
    rw (c.saturating_sub-left.ensures, e)
    (pass-next (g.T.Writing.write a.writing) 32 a.page.now a.size a.minis a.n a.from _ a.out.now
    (shape _ _ c.requires.2) c.loop-left-test.true l.invariant
    (g.met.T.Writing.laws.grows a.writing 0 a.n a.out.now c.requires.3) laid
    (record { entry = rw e at s.entry; wrote = rw e at s.wrote }))

-- a good page has no block that is refused
pub returns-in_default : goal.returns-in_default
returns-in_default g c =
    let l = c.loop-left in
    let a = c.args in
    absurd
    (never
    (refused c.loop-left-test.true l.invariant.comes
    (block_is a.size a.minis l.left a.page.now l.at c.needed_of-need.ensures c.in_default.ensures)))

-- the entry that is left has room
pub write_one-requires : goal.write_one-requires
write_one-requires g c =
    let l = c.loop-left in
    let a = c.args in
    let here : 0 + l.i ≡ l.i = omega arith in (
      omega arith,
      rw here at
          (g.met.T.Writing.laws.part a.writing 0 a.n l.i 1 a.out.now l.out c.requires.3 l.auto.out l.invariant.eights
          (omega arith)),
    )

-- no delta is left
pub returns-then-i-n : goal.returns-then-i-n
returns-then-i-n g c =
    let l = c.loop-left in
    let a = c.args in
    let none : l.left ≡ 0 = omega arith in
    pass-last (g.T.Writing.write a.writing) 32 a.page.now a.size a.minis a.n a.from _ a.out.now
    (rw none at l.invariant) (g.met.T.Writing.laws.grows a.writing 0 a.n a.out.now c.requires.3) c.if-i-n.true
    c.write_one.ensures

pub returns-else-i-n : goal.returns-else-i-n
returns-else-i-n g c =
    let l = c.loop-left in
    let a = c.args in
    let none : l.left ≡ 0 = omega arith in
    pass-end (g.T.Writing.write a.writing) 32 a.page.now a.size a.minis a.n a.from _ a.out.now
    (rw none at l.invariant) c.if-i-n.false
