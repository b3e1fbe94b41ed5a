-- `vertical_turn::unpacking::row` meets its contract: each turn puts one byte more behind what its place holds.
use mathlib.Core.Path.{◌≡◌, ap, ◌∙◌}
use Prim.Native.Nat.{ℕ}
use native.Mathlib.Omega.{arith}
use Rattle.rules.specs.Bits.{put, tabulate}
use Rattle.words.specs.Tabulated.{tabulate-none}
use Rattle.vertical_turn.specs.Rows.{grown_row, next_place}
use Rattle.vertical_turn.proofs.unpacking.row.Goals as goal

pub loop-i-init : goal.loop-i-init
loop-i-init c =
    let a = c.args in
    tabulate-none a.entries.now a.from (grown_row a.words.now a.entries.now a.from)

pub loop-i-preserved : goal.loop-i-preserved
loop-i-preserved c =
    let a = c.args in
    rw c.loop-i.invariant (next_place a.words.now a.entries.now a.from c.loop-i.i (omega arith))

pub returns : goal.returns
returns c =
    let a = c.args in
    let e : c.loop-i.i ≡ a.n = omega arith in
    c.loop-i.invariant
    ∙ ap
    (λ (n : ℕ). put a.entries.now a.from
    (tabulate n (grown_row a.words.now a.entries.now a.from))) e
