-- `vertical_turn::packing::planes_together` meets its contract: the gathered words turned are the planes.
use mathlib.Core.Path.{ap, ◌∙◌}
use mathlib.Core.List.{List}
use Prim.Native.Nat.{ℕ}
use native.Mathlib.Omega.{arith}
use Rattle.rules.specs.Bits.{put, tabulate}
use Rattle.vertical_turn.specs.PlanesFromBytes.{turned_down, laid_planes}
use Rattle.vertical_turn.proofs.packing.planes_together.Goals as goal

pub returns : goal.returns
returns c =
    let a = c.args in
    let l = a.planes.now in
    c.lay.ensures
    ∙ ap (λ (ws : List ℕ). put l a.k (tabulate a.n (turned_down ws a.n)))
    c.gather.ensures
    ∙ ap (put l a.k) (laid_planes a.entries.now _ a.w a.k a.n (omega arith) (omega arith))
