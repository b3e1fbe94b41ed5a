-- `dictionary_scan::judging::unordered` meets its contract. The loop's invariant: what was found is what the values
-- before value k have.
use mathlib.Core.Path.{◌≡◌}
use Prim.Native.Nat.{suc, ◌-◌, ◌/◌, ◌≤◌}
use lib.ListN.{length}
use lib.Signed.{le_z}
use Rattle.rules.specs.Bits.{some_below}
use Rattle.rules.specs.Dictionary.{value}
use Rattle.dictionary_scan.proofs.judging.unordered.Given as goal

abbrev pub invariant-loop-k : goal.invariant-loop-k
invariant-loop-k l =
    (l.k - 1 ≤ length l.dict / 4 - 1)
    × (l.found ≡ some_below (l.k - 1) (λ j. le_z (value l.dict (suc j)) (value l.dict j)))
