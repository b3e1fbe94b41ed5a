-- `packed_entries::groups::unpack_groups` meets its contract: each turn puts a group behind those in place.
use Rattle.std.proofs.Common.{◌*◌, refl, arith}
use Rattle.rules.specs.Bits.{entry}
use Rattle.rules.specs.Bits.Order.{low_first}
use Rattle.words.specs.Tabulated.{tabulate-none}
use Rattle.packed_entries.specs.GroupByGroup.{next_group}
use Rattle.packed_entries.proofs.groups.unpack_groups.Goals as goal

pub loop-g-init : goal.loop-g-init
loop-g-init c =
    let a = c.args in
    tabulate-none a.entries.now 0 (entry low_first a.page.now a.w)

pub loop-g-preserved : goal.loop-g-preserved
loop-g-preserved c =
    let a = c.args in
    let l = c.loop-g in
    next_group a.entries.now a.page.now a.w l.g (l.g * a.w) (omega arith) refl l.invariant c.unpack_eight.ensures
