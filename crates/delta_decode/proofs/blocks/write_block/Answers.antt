-- `delta_decode::blocks::write_block` meets its contract: a miniblock more each turn.
use mathlib.Core.Path.{◌≡◌}
use native.Mathlib.Omega.{arith}
use Rattle.words.specs.Puts.{part_rest}
use Rattle.delta_decode.specs.MiniblockDeltas.{turn_start, turn-next, turn_end}
use Rattle.delta_decode.proofs.Turns.{low, all_widths}
use Rattle.delta_decode.proofs.blocks.write_block.Goals as goal

pub loop-width-init : goal.loop-width-init
loop-width-init g c =
    let a = c.args in
    turn_start (g.T.Writing.write a.writing) 32 a.page.now a.block a.from a.room a.i a.out.now c.requires.0
    (g.met.T.Writing.laws.starts a.writing a.i a.out.now)

pub overflow_cast-w : goal.overflow_cast-w
overflow_cast-w g c = omega (arith, low c.requires.0 c.loop-width-test.true c.loop-width.invariant)

pub overflow_sub-room : goal.overflow_sub-room
overflow_sub-room g c = omega (arith, low c.requires.0 c.loop-width-test.true c.loop-width.invariant)

pub slice_bounds-write_mini-count : goal.slice_bounds-write_mini-count
slice_bounds-write_mini-count g c = omega (arith, low c.requires.0 c.loop-width-test.true c.loop-width.invariant)

pub slice_bounds-write_mini-start : goal.slice_bounds-write_mini-start
slice_bounds-write_mini-start g c = omega (arith, low c.requires.0 c.loop-width-test.true c.loop-width.invariant)

pub slice_bounds-write_mini-end : goal.slice_bounds-write_mini-end
slice_bounds-write_mini-end g c = omega (arith, low c.requires.0 c.loop-width-test.true c.loop-width.invariant)

pub overflow_add-i : goal.overflow_add-i
overflow_add-i g c = omega (arith, low c.requires.0 c.loop-width-test.true c.loop-width.invariant)

pub write_mini-x-requires : goal.write_mini-x-requires
write_mini-x-requires g c =
    let l = c.loop-width in
    let lo = low c.requires.0 c.loop-width-test.true l.invariant in
    let a = c.args in (
      omega (arith, lo),
      omega (arith, lo),
      g.met.T.Writing.laws.part a.writing a.i a.room l.done c.min-k.result a.out.now l.out c.requires.2 l.auto.out
          l.invariant.eights (omega (arith, lo)),
    )

pub overflow_cast-at : goal.overflow_cast-at
overflow_cast-at g c = omega (arith, low c.requires.0 c.loop-width-test.true c.loop-width.invariant)

pub overflow_mul-at : goal.overflow_mul-at
overflow_mul-at g c = omega (arith, low c.requires.0 c.loop-width-test.true c.loop-width.invariant)

pub overflow_add-at : goal.overflow_add-at
overflow_add-at g c = omega (arith, low c.requires.0 c.loop-width-test.true c.loop-width.invariant)

pub overflow_add-done : goal.overflow_add-done
overflow_add-done g c =
    let h = c.requires.0 in
    omega (arith, h.short, low h c.loop-width-test.true c.loop-width.invariant)

pub loop-width-preserved : goal.loop-width-preserved
loop-width-preserved g c =
    let l = c.loop-width in
    let a = c.args in
    let e = c.write_mini-x.ensures in
    let same = c.kept_number-least.ensures in
    let part = part_rest a.page.now l.at in
    let lo = low c.requires.0 c.loop-width-test.true l.invariant in
    rw lo.0
    (turn-next (g.T.Writing.write a.writing) 32 a.page.now a.block a.from a.room a.i a.out.now c.requires.0
    lo.1 l.invariant (g.met.T.Writing.laws.grows a.writing a.i a.room a.out.now c.requires.2)
    c.min-k.ensures (record { entry = rw (part, same, lo.0) at e.entry; wrote = rw (part, same, lo.0) at e.wrote }))

pub returns : goal.returns
returns g c =
    let l = c.loop-width in
    let a = c.args in
    let all : l.width-index ≡ a.block.need = omega (arith, all_widths c.requires.0) in
    let p =
    turn_end (g.T.Writing.write a.writing) 32 a.page.now a.block a.from a.room a.i a.out.now (rw all at l.invariant) in
    record { entry = p.entry; wrote = p.wrote }
