-- `words::loads::load_tail` meets its contract: the number of the bytes behind those that are left.
use mathlib.Core.Path.{◌≡◌}
use mathlib.Core.List.{◌++◌}
use Prim.Native.Nat.{◌+◌}
use lib.ListN.{length, drop}
use Rattle.rules.specs.Bits.{number}
use Rattle.words.proofs.loads.load_tail.Given as goal

abbrev pub invariant-loop-b : goal.invariant-loop-b
invariant-loop-b l = record {
  left : drop l.at l.s
      ≡ l.b-iterator.iter.rest.now ++ drop (l.at + length l.b-iterator.iter.rest.now) l.s;
  read : l.x ≡ number (drop (l.at + length l.b-iterator.iter.rest.now) l.s);
}
