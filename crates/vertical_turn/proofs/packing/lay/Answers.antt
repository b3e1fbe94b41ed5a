-- `vertical_turn::packing::lay` meets its contract: one or the other.
use Rattle.vertical_turn.proofs.packing.lay.Goals as goal

pub returns-then-n-eq8 : goal.returns-then-n-eq8
returns-then-n-eq8 c = rw c.if-n-eq8.true c.lay_each.ensures
