-- `vertical_turn::turning::turn` meets its contract: one or the other.
use Rattle.vertical_turn.proofs.turning.turn.Goals as goal

pub returns-then-n-eq8 : goal.returns-then-n-eq8
returns-then-n-eq8 c = rw c.if-n-eq8.true c.turn_each.ensures
