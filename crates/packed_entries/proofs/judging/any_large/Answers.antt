-- `packed_entries::judging::any_large` meets its contract: the bits of all entries reach 2^w where an entry does.
use native.Mathlib.Omega.{arith}
use Rattle.words.specs.Bits.{one_shl}
use Rattle.packed_entries.proofs.judging.any_large.Goals as goal

pub returns : goal.returns
returns c =
    let w = c.args.w in
    rw (one_shl 64 w (omega arith)) (c.bits_together.ensures w)
