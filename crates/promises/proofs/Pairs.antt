-- 18 is not given just where the list ascends.
use Rattle.std.specs.Prelude.{◌≡◌, false, List, ◌↔◌, ℕ}
use Rattle.std.proofs.Common.{arith}
use Rattle.rules.specs.Spans.{misplaced}
use Rattle.promises.specs.Pairs.{Ascends, placed-ascends, ascends-placed}

pub placed-exact : (n : ℕ) (list : List ℕ) → misplaced n 0 list ≡ false ↔ Ascends n list
placed-exact n list = (λ e. (placed-ascends n 0 list e).0, λ a. ascends-placed n 0 list a (λ h. omega arith))
