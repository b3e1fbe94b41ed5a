-- `packed_entries::unpacking::unpack_front` meets its contract: the groups' entries, and none of a page that has no
-- window.
use Rattle.rules.specs.Bits.{entry}
use Rattle.rules.specs.Bits.Order.{low_first}
use Rattle.words.specs.Tabulated.{tabulate-none}
use Rattle.packed_entries.proofs.unpacking.unpack_front.Goals as goal

pub returns-then-page-lt8-clause-written : goal.returns-then-page-lt8-clause-written
returns-then-page-lt8-clause-written c =
    let a = c.args in
    tabulate-none a.entries.now 0 (entry low_first a.page.now a.w)
