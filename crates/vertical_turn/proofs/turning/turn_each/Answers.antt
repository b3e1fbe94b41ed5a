-- `vertical_turn::turning::turn_each` meets its contract: each turn stores one turned word more.
use mathlib.Core.Path.{◌≡◌}
use native.Mathlib.Omega.{arith}
use Rattle.words.specs.Tabulated.{tabulate-none, put-tabulate}
use Rattle.vertical_turn.specs.Turned.{turned}
use Rattle.vertical_turn.proofs.turning.turn_each.Goals as goal

pub loop-i-init : goal.loop-i-init
loop-i-init c = let a = c.args in tabulate-none a.out.now 0 (turned a.words.now a.at a.n)

pub loop-i-preserved : goal.loop-i-preserved
loop-i-preserved c =
    let a = c.args in
    let l = c.loop-i in
    rw (l.invariant, c.turn_one.ensures)
    (put-tabulate a.out.now l.i (turned a.words.now a.at a.n) (omega arith))

pub returns : goal.returns
returns c =
    let all : c.loop-i.i ≡ 8 = omega arith in
    rw (← all) c.loop-i.invariant
