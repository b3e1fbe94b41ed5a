-- `delta_read::judging::judge_blocks` meets its contract. The loop's invariant: the deltas are those passed and
-- what reading on from here gives.
-- Each block takes 128 of the deltas or more, so fewer are left with each turn.
use mathlib.Core.Path.{◌≡◌, sym, ap, ◌∙◌}
use Prim.Native.Nat.{◌/◌}
use native.Mathlib.Omega.{arith}
use lib.Dec.{ltb}
use lib.ListN.{length}
use borrow.Author.Tests.{lt-ltb, le-ltb}
use Rattle.rules.specs.Delta.{block_at, blocks_at, at_end}
use Rattle.answers.specs.Laws.{passed_up}
use Rattle.delta_read.specs.Shapes.{shape}
use Rattle.delta_read.specs.Needed.{needed_le}
use Rattle.delta_read.specs.BlockByBlock.{begins, refused, next-block, ended}
use Rattle.delta_read.specs.DeltasFault.{deltas_fault, fault-also}
use Rattle.delta_read.proofs.judging.judge_blocks.Goals as goal

pub nonzero_div-m : goal.nonzero_div-m
nonzero_div-m c = let sh = shape _ _ c.requires.1 in omega arith

pub loop-left-init : goal.loop-left-init
loop-left-init c =
    let a = c.args in
    (omega arith, begins 32 a.size a.minis a.deltas a.page.now a.from)

pub needed_of-need-requires : goal.needed_of-need-requires
needed_of-need-requires c = let sh = shape _ _ c.requires.1 in omega arith

pub block_at-requires : goal.block_at-requires
block_at-requires c =
    let a = c.args in
    let sh = shape _ _ c.requires.1 in
    omega (arith, c.needed_of-need.ensures, needed_le a.minis (a.size / a.minis) c.loop-left.left)

pub loop-left-smaller : goal.loop-left-smaller
loop-left-smaller c =
    let sh = shape _ _ c.requires.1 in
    omega (arith, c.saturating_sub-left.ensures)

pub loop-left-preserved : goal.loop-left-preserved
loop-left-preserved c =
    let l = c.loop-left in
    let a = c.args in
    let need-is = ap (λ need. block_at 32 a.minis need (a.size / a.minis) a.page.now l.at)
    (sym c.needed_of-need.ensures) in
    let sh = shape _ _ c.requires.1 in (
      omega (arith, c.saturating_sub-left.ensures),
      rw c.saturating_sub-left.ensures
          (next-block (omega arith) l.invariant.1 (omega arith) (need-is ∙ sym c.in_ok-block.ensures)),
    )

pub returns-in_err-block : goal.returns-in_err-block
returns-in_err-block c =
    let l = c.loop-left in
    let a = c.args in
    let need-is = ap (λ need. block_at 32 a.minis need (a.size / a.minis) a.page.now l.at)
    (sym c.needed_of-need.ensures) in
    rw (passed_up _ _ c.from_residual.ensures)
    (sym (ap deltas_fault (refused (omega arith) l.invariant.1 (need-is ∙ sym c.in_err-block.ensures))))

pub returns-then-at-page : goal.returns-then-at-page
returns-then-at-page c =
    let at-end : let l = c.loop-left in let a = c.args in
    deltas_fault (blocks_at 32 a.size a.minis a.deltas a.deltas a.page.now a.from)
    ≡ deltas_fault (at_end (ltb l.at (length a.page.now))) = let l = c.loop-left in
    let a = c.args in
    ap deltas_fault (ended l.invariant.1 (omega arith)) ∙ fault-also _ (at_end (ltb l.at (length a.page.now))) in
    sym (at-end ∙ rw (lt-ltb _ _ c.if-at-page.true))

pub returns : goal.returns
returns c =
    let at-end : let l = c.loop-left in let a = c.args in
    deltas_fault (blocks_at 32 a.size a.minis a.deltas a.deltas a.page.now a.from)
    ≡ deltas_fault (at_end (ltb l.at (length a.page.now))) = let l = c.loop-left in
    let a = c.args in
    ap deltas_fault (ended l.invariant.1 (omega arith)) ∙ fault-also _ (at_end (ltb l.at (length a.page.now))) in
    sym (at-end ∙ rw (le-ltb _ _ c.if-at-page.false))
