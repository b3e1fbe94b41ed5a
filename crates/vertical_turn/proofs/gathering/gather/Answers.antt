-- `vertical_turn::gathering::gather` meets its contract: each turn stores one gathered word more.
use mathlib.Core.Path.{◌≡◌}
use native.Mathlib.Omega.{arith}
use Rattle.words.specs.Tabulated.{tabulate-none, put-tabulate}
use Rattle.vertical_turn.specs.PlanesFromBytes.{gathered}
use Rattle.vertical_turn.proofs.gathering.gather.Goals as goal

pub loop-r-init : goal.loop-r-init
loop-r-init c = let a = c.args in tabulate-none a.words.now 0 (gathered a.entries.now a.low)

pub loop-r-preserved : goal.loop-r-preserved
loop-r-preserved c =
    let a = c.args in
    let l = c.loop-r in
    rw (l.invariant, c.gather_one.ensures)
    (put-tabulate a.words.now l.r (gathered a.entries.now a.low) (omega arith))

pub returns : goal.returns
returns c =
    let all : c.loop-r.r ≡ 8 = omega arith in
    rw (← all) c.loop-r.invariant
