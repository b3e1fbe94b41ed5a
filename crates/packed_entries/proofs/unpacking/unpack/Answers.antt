-- `packed_entries::unpacking::unpack` meets its contract: behind the groups, each turn fills one place more.
use mathlib.Core.Path.{◌≡◌}
use native.Mathlib.Omega.{arith}
use Rattle.rules.specs.Bits.{entry}
use Rattle.rules.specs.Bits.Order.{low_first}
use Rattle.words.specs.Tabulated.{put-tabulate}
use Rattle.packed_entries.specs.GroupByGroup.{in_place, further_in_place}
use Rattle.packed_entries.proofs.unpacking.unpack.Goals as goal

pub loop-i-init : goal.loop-i-init
loop-i-init c =
    let a = c.args in
    let front = c.unpack_front-front in
    in_place a.entries.now front.result (entry low_first a.page.now a.w) front.ensures.written

pub loop-i-preserved : goal.loop-i-preserved
loop-i-preserved c =
    let a = c.args in
    let l = c.loop-i in
    rw (l.invariant, c.entry_any.ensures)
    (put-tabulate _ l.i (entry low_first a.page.now a.w) (omega arith))

pub returns : goal.returns
returns c =
    let a = c.args in
    let front = c.unpack_front-front in
    let l = c.loop-i in
    let all : l.i ≡ a.n = omega arith in
    further_in_place a.entries.now front.result a.n (entry low_first a.page.now a.w) (omega arith)
    front.ensures.written (rw (← all) l.invariant)
