-- `words::stores::store_each` meets its contract: each turn stores one byte more.
use mathlib.Core.Path.{◌≡◌}
use Prim.Native.Nat.{◌/◌, ◌^◌}
use Rattle.rules.specs.Bits.{bytes, put}
use Rattle.words.proofs.stores.store_each.Given as goal

abbrev pub invariant-loop-byte : goal.invariant-loop-byte
invariant-loop-byte l = record {
  rest : l.left ≡ l.x / 256 ^ l.byte-index;
  stored : l.byte-items ≡ put l.initial.byte-items 0 (bytes l.byte-index l.x);
}
