-- `bitmaps::ones_in` meets its contract. Both loops keep one invariant: the ones are those of the bytes passed.
use mathlib.Core.Path.{◌≡◌}
use Prim.Native.Nat.{◌+◌, ◌*◌, ◌/◌, ◌≤◌}
use lib.ListN.{take}
use Rattle.bitmaps.specs.Counts.{count_ones}
use Rattle.bitmaps.proofs.ones_in.Given as goal

abbrev pub invariant-loop-word : goal.invariant-loop-word
invariant-loop-word l = record {
  few : l.ones ≤ 64 * l.word-index;
  passed : l.ones ≡ count_ones (take (8 * l.word-index) (take l.m l.bitmap));
}

abbrev pub invariant-loop-byte : goal.invariant-loop-byte
invariant-loop-byte l = record {
  few : l.ones ≤ 64 * (l.m / 8) + 8 * l.byte-index;
  passed : l.ones ≡ count_ones (take (8 * (l.m / 8) + l.byte-index) (take l.m l.bitmap));
}
