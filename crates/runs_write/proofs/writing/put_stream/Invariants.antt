-- `runs_write::writing::put_stream` meets its contract: the runs passed are stored, and the stream from here on is
-- to come behind them.
use mathlib.Core.Path.{◌≡◌}
use Prim.Native.Nat.{◌+◌, ◌-◌}
use lib.ListN.{length, drop}
use Rattle.rules.specs.Bits.{put}
use Rattle.rules.specs.RunWriter.{stream}
use Rattle.runs_write.proofs.writing.put_stream.Given as goal

abbrev pub invariant-loop-p : goal.invariant-loop-p
invariant-loop-p l =
    (length l.page ≡ length l.initial.page)
    × (l.at + length (stream l.w (drop l.p l.entries)) ≡ length (stream l.w l.entries))
    × (put l.page l.at (stream l.w (drop l.p l.entries)) ≡ put l.initial.page 0 (stream l.w l.entries))

abbrev pub decreases-loop-p : goal.decreases-loop-p
decreases-loop-p l = length l.entries - l.p
