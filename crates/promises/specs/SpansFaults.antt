-- When the two operations of spans find no fault, in plain conditions; where a list is well placed: proofs/SpansFaults.
use Rattle.std.specs.Prelude.{◌≡◌, not, List, ◌↔◌, ℕ, ◌%◌, ◌≤◌, ltb, eqb, length}
use Rattle.std.proofs.Math.Logic.Iff
use Rattle.std.proofs.Common.{arith}
use Rattle.rules.specs.Bits.{ceil}
use Rattle.rules.specs.Answer.{faulty, ◌then◌, count_fault, room_fault}
use Rattle.rules.specs.Spans.{spans}
use Rattle.promises.specs.NoFault.{◌and◌, neither, no_fault, not-below, no_rest, count_kept, room-enough}

-- 5 of a list
pub even-exact : (list : List ℕ) → faulty (not (eqb (length list % 2) 0)) 5 ≡ 0 ↔ length list % 2 ≡ 0
even-exact list = Iff.trans (no_fault _ 5 (λ e. omega arith)) (no_rest (length list % 2))

-- 2, 5, 4
pub from_good : (bits : List ℕ) (n places : ℕ)
    → (count_fault n then faulty (ltb (length bits) (ceil n 8)) 5 then room_fault places (length (spans bits n))) ≡ 0
    ↔ n ≤ 16384 and ceil n 8 ≤ length bits and length (spans bits n) ≤ places
from_good bits n places =
    neither _ _ (count_kept n)
    (neither _ _ (not-below _ _ 5 (λ e. omega arith)) (room-enough places (length (spans bits n))))
