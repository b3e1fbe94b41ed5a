-- `runs_write::sizes::stream_size` meets its contract: the bytes of the runs passed, and of the stream from here on.
use mathlib.Core.Path.{◌≡◌}
use Prim.Native.Nat.{◌+◌, ◌-◌}
use lib.ListN.{length, drop}
use Rattle.rules.specs.RunWriter.{stream}
use Rattle.runs_write.proofs.sizes.stream_size.Given as goal

abbrev pub invariant-loop-p : goal.invariant-loop-p
invariant-loop-p l = l.size + length (stream l.w (drop l.p l.entries)) ≡ length (stream l.w l.entries)

abbrev pub decreases-loop-p : goal.decreases-loop-p
decreases-loop-p l = length l.entries - l.p
