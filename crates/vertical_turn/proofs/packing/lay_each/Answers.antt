-- `vertical_turn::packing::lay_each` meets its contract: each turn stores one turned word more.
use mathlib.Core.Path.{◌≡◌, ap, ◌∙◌}
use Prim.Native.Nat.{ℕ}
use native.Mathlib.Omega.{arith}
use Rattle.rules.specs.Bits.{put, tabulate}
use Rattle.words.specs.Tabulated.{tabulate-none, put-tabulate_at}
use Rattle.vertical_turn.specs.PlanesFromBytes.{turned_down}
use Rattle.vertical_turn.proofs.packing.lay_each.Goals as goal

pub loop-t-init : goal.loop-t-init
loop-t-init c = let a = c.args in tabulate-none a.planes.now a.k (turned_down a.words.now a.n)

pub loop-t-preserved : goal.loop-t-preserved
unfolding turned_down
loop-t-preserved c =
    let a = c.args in
    let l = c.loop-t in
    rw (l.invariant, c.turn_one.ensures)
    (put-tabulate_at a.planes.now a.k l.t (turned_down a.words.now a.n) (omega arith))

pub returns : goal.returns
returns c =
    let a = c.args in
    let all : c.loop-t.t ≡ a.n = omega arith in
    c.loop-t.invariant ∙ ap (λ (m : ℕ). put a.planes.now a.k (tabulate m (turned_down a.words.now a.n))) all
