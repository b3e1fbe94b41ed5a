-- `delta_write::deltas::put_above` meets its contract: each turn stores one number behind those that are stored.
use Rattle.std.proofs.Common.{◌≡◌, take, drop}
use Rattle.rules.specs.Bits.{put}
use Rattle.rules.specs.DeltaWriter.{deltas, above_least}
use Rattle.delta_write.proofs.deltas.put_above.Given as goal

abbrev pub invariant-loop-i : goal.invariant-loop-i
invariant-loop-i l =
    l.numbers ≡ put l.initial.numbers 0 (take l.i (above_least (take l.k (drop l.from (deltas 32 l.entries)))))
