-- `vertical_turn::unpacking::add_planes` meets its contract: the turned words' bytes are the lanes.
use mathlib.Core.Path.{ap, ◌∙◌}
use mathlib.Core.List.{List}
use Prim.Native.Nat.{ℕ}
use native.Mathlib.Omega.{arith}
use Rattle.rules.specs.Bits.{put, tabulate}
use Rattle.vertical_turn.specs.Rows.{grown}
use Rattle.vertical_turn.specs.Unpacked.{grown-turned}
use Rattle.vertical_turn.proofs.unpacking.add_planes.Goals as goal

pub returns : goal.returns
returns c =
    let a = c.args in
    let l = a.entries.now in
    c.rows.ensures
    ∙ ap (λ (ws : List ℕ). put l 0 (tabulate a.m (grown ws l)))
    c.turn.ensures
    ∙ ap (put l 0) (grown-turned a.planes.now _ l a.at a.n a.m (omega arith) (omega arith))
