-- `packed_select::copy` meets its contract. The loop's invariant: the bytes passed are in place.
use Rattle.std.proofs.Common.{◌≡◌, take}
use Rattle.rules.specs.Bits.{put}
use Rattle.packed_select.proofs.copy.Given as goal

abbrev pub invariant-loop-i : goal.invariant-loop-i
invariant-loop-i l = l.rest ≡ put l.initial.rest 0 (take l.i l.byte-items)
