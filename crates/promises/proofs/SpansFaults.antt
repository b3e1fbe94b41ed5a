-- When a list of pairs finds no fault, in plain conditions.
use Rattle.std.specs.Prelude.{◌≡◌, not, List, ◌↔◌, ℕ, ◌%◌, ◌≤◌, eqb, length}
use Rattle.std.proofs.Math.Logic.Iff
use Rattle.std.proofs.Common.{arith}
use Rattle.rules.specs.Bits.{ceil}
use Rattle.rules.specs.Answer.{faulty, ◌then◌, count_fault, room_fault}
use Rattle.rules.specs.Spans.{misplaced}
use Rattle.promises.specs.NoFault.{◌and◌, neither, no_fault, count_kept, room-enough}
use Rattle.promises.specs.Pairs.{Ascends}
use Rattle.promises.proofs.Pairs.{placed-exact}
use Rattle.promises.specs.SpansFaults.{even-exact}

-- 18
list_exact : (n : ℕ) (list : List ℕ) → faulty (misplaced n 0 list) 18 ≡ 0 ↔ Ascends n list
list_exact n list = Iff.trans (no_fault (misplaced n 0 list) 18 (λ e. omega arith)) (placed-exact n list)

-- 2, 5, 4, 18
pub to_good : (list : List ℕ) (n places : ℕ)
    → (count_fault n then faulty (not (eqb (length list % 2) 0)) 5 then room_fault places (ceil n 8)
    then faulty (misplaced n 0 list) 18) ≡ 0
    ↔ n ≤ 16384 and length list % 2 ≡ 0 and ceil n 8 ≤ places and Ascends n list
to_good list n places =
    neither _ _ (count_kept n)
    (neither _ _ (even-exact list) (neither _ _ (room-enough places (ceil n 8)) (list_exact n list)))
