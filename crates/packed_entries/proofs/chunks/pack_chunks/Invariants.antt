-- `packed_entries::chunks::pack_chunks` meets its contract: each turn lays k entries, as one number, behind those
-- that are laid.
use mathlib.Core.Path.{◌≡◌}
use Prim.Native.Nat.{◌*◌}
use lib.ListN.{take, drop}
use Rattle.rules.specs.Bits.{put}
use Rattle.rules.specs.Bits.Order.{low_first}
use Rattle.rules.specs.Horizontal.{packed}
use Rattle.packed_entries.proofs.chunks.pack_chunks.Given as goal

abbrev pub invariant-loop-j : goal.invariant-loop-j
invariant-loop-j l =
    l.part ≡ put l.initial.part 0 (packed low_first l.w (take (l.j * l.k) (drop l.i l.entries)))
