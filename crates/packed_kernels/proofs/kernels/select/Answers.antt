-- `packed_kernels::kernels::select` meets its contract. The loop's invariant: the bytes of the groups passed are in
-- place.
use Rattle.std.proofs.Common.{arith, ◌≡◌}
use Rattle.words.specs.Entries.{place-within}
use Rattle.packed_kernels.specs.Selected.{ranging}
use Rattle.packed_kernels.specs.GroupByGroup.{none-selected, next-selected}
use Rattle.packed_kernels.proofs.kernels.select.Goals as goal

pub loop-g-init : goal.loop-g-init
loop-g-init g c =
    let a = c.args in
    none-selected a.bitmap.now a.page.now a.w (ranging a.low a.span a.flip)

pub overflow_mul-g : goal.overflow_mul-g
overflow_mul-g g c =
    let a = c.args in
    omega (arith, place-within a.w c.loop-g.g a.m (omega arith))

pub eight-requires : goal.eight-requires
eight-requires g c =
    let a = c.args in
    (c.requires.0, omega (arith, c.requires.1, place-within a.w c.loop-g.g a.m (omega arith)))

pub loop-g-preserved : goal.loop-g-preserved
loop-g-preserved g c =
    let a = c.args in
    let l = c.loop-g in
    rw l.invariant
    (next-selected a.bitmap.now a.page.now l.g a.w a.low a.span a.flip c.eight.result
    (omega (arith, c.requires.2)) (omega arith) c.requires.3 c.eight.ensures)

pub returns : goal.returns
returns g c =
    let all : c.loop-g.g ≡ c.args.m = omega arith in
    rw (← all) c.loop-g.invariant
