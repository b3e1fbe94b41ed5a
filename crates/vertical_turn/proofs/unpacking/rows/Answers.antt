-- `vertical_turn::unpacking::rows` meets its contract: each turn fills eight places more, and the last row those
-- that are left.
use mathlib.Core.Path.{◌≡◌, ap, ◌∙◌}
use Prim.Native.Nat.{ℕ, ◌+◌, ◌*◌, ◌/◌, ◌%◌}
use native.Mathlib.Omega.{arith}
use Rattle.rules.specs.Bits.{put, tabulate}
use Rattle.words.specs.Tabulated.{tabulate-none}
use Rattle.vertical_turn.specs.Rows.{grown, next_row}
use Rattle.vertical_turn.proofs.unpacking.rows.Goals as goal

pub loop-q-init : goal.loop-q-init
loop-q-init c = let a = c.args in tabulate-none a.entries.now 0 (grown a.words.now a.entries.now)

pub loop-q-preserved : goal.loop-q-preserved
loop-q-preserved c =
    let a = c.args in
    let l = c.loop-q in
    let next : 8 * (l.q + 1) ≡ 8 * l.q + 8 = omega arith in
    rw next
    (c.row.ensures
    ∙ rw l.invariant
    (next_row a.words.now a.entries.now (8 * l.q) 8 (omega arith) (omega arith) (omega arith)))

pub returns : goal.returns
returns c =
    let a = c.args in
    let l = c.loop-q in
    let whole : 8 * l.q ≡ a.m / 8 * 8 = omega arith in
    let all : a.m / 8 * 8 + a.m % 8 ≡ a.m = omega arith in
    c.row-2.ensures
    ∙ rw (l.invariant, whole)
    (next_row a.words.now a.entries.now (a.m / 8 * 8) (a.m % 8) (omega arith) (omega arith)
    (omega arith))
    ∙ ap (λ (n : ℕ). put a.entries.now 0 (tabulate n (grown a.words.now a.entries.now))) all
