-- `vertical_turn::packing::some_planes` meets its contract: one or the other.
use mathlib.Core.Path.{sym, ap, ◌∙◌}
use mathlib.Core.List.{[], ◌∷◌}
use Prim.Native.Nat.{ℕ}
use native.Mathlib.Nat.{add-zero}
use native.Mathlib.Omega.{arith}
use Rattle.rules.specs.Bits.{put, tabulate}
use Rattle.rules.specs.Vertical.{plane}
use Rattle.words.specs.Puts.{set-put}
use Rattle.vertical_turn.proofs.packing.some_planes.Goals as goal

pub returns-then-n-eq1 : goal.returns-then-n-eq1
unfolding tabulate
returns-then-n-eq1 c =
    let a = c.args in
    let l = a.planes.now in
    let xs = a.entries.now in
    rw c.if-n-eq1.true
    (set-put l a.k c.plane_of.result (omega arith)
    ∙ ap (λ (p : ℕ). put l a.k (p ∷ [])) (c.plane_of.ensures ∙ ap (plane a.w xs 0) (sym (add-zero a.k))))
