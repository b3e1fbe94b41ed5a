-- `packed_select::groups_within` meets its contract: all q groups, or a quotient's, which end eight bytes before
-- the end.
use native.Mathlib.Omega.{arith}
use Rattle.packed_select.specs.TwoPieces.{front-size}
use Rattle.packed_select.proofs.groups_within.Goals as goal

pub returns-else-q-w : goal.returns-else-q-w
returns-else-q-w c =
    let a = c.args in
    rw c.min.ensures (front-size a.len a.w a.q (omega arith) (omega arith) (omega arith))
