-- `packed_select::front` meets its contract: the windows of the groups it compares end within the page.
use mathlib.Core.Path.{ap}
use Prim.Native.Nat.{◌*◌}
use native.Mathlib.Omega.{arith}
use Rattle.packed_kernels.specs.Selected.{ranging}
use Rattle.packed_select.specs.TwoPieces.{none-front}
use Rattle.packed_select.proofs.front.Goals as goal
use Rattle.packed_select.proofs.front.Goals.{then-w-eq0-via-then-w-eq0, then-w-eq0-via-else-w-eq0+then-page-lt8}

pub returns-then-w-eq0 : goal.returns-then-w-eq0
returns-then-w-eq0 c =
    let a = c.args in
    let none =
    none-front a.bitmap.now a.page.now a.w (ranging a.low a.span a.flip) a.q
    (elim c.then-w-eq0.branch [
      | then-w-eq0-via-then-w-eq0 w ↦ omega (arith, ap (λ w. a.q * w) w.if-w-eq0.true)
      | then-w-eq0-via-else-w-eq0+then-page-lt8 w ↦ omega arith
    ])
    in
    record { within = none.0; written = none.1 }
