-- `runs_mark::bits::bits_at` meets its contract: eight bytes hold the 56 bits.
use Rattle.runs_mark.specs.PieceByPiece.{bits_56}
use Rattle.runs_mark.proofs.bits.bits_at.Goals as goal

pub returns : goal.returns
returns c =
    let a = c.args in
    rw c.load8.ensures (bits_56 a.bits.now a.i (λ k. (c.type_inv.bits k).fits))
