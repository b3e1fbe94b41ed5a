-- `runs_mark::bits::append_bits` meets its contract. The loop's invariant: the bits of the pieces passed are in place.
use Prim.Native.Nat.{◌*◌, ◌%◌, ◌^◌}
use Rattle.rules.specs.Bits.{number}
use Rattle.runs_mark.specs.SeveralGoes.{Begun}
use Rattle.runs_mark.proofs.bits.append_bits.Given as goal

abbrev pub invariant-loop-piece : goal.invariant-loop-piece
invariant-loop-piece l =
    Begun l.initial.bitmap l.p (number l.bits % 2 ^ (56 * l.piece)) (56 * l.piece) l.bitmap
