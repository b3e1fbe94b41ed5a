-- `packed_entries::chunks::chunk` meets its contract: each turn joins one entry more.
use mathlib.Core.Path.{◌≡◌}
use lib.ListN.{take}
use Rattle.rules.specs.Bits.{joined}
use Rattle.packed_entries.proofs.chunks.chunk.Given as goal

abbrev pub invariant-loop-j : goal.invariant-loop-j
invariant-loop-j l = l.x ≡ joined l.w (take l.j l.entry-items)
