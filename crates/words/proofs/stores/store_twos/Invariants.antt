-- `words::stores::store_twos` meets its contract: each turn stores two bytes more.
use mathlib.Core.Path.{◌≡◌}
use Prim.Native.Nat.{◌*◌}
use Rattle.rules.specs.Bits.{bytes, put}
use Rattle.words.proofs.stores.store_twos.Given as goal

abbrev pub invariant-loop-i : goal.invariant-loop-i
invariant-loop-i l = l.s ≡ put l.initial.s l.at (bytes (2 * l.i) l.x)
