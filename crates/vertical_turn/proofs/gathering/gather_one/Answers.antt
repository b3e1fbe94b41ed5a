-- `vertical_turn::gathering::gather_one` meets its contract: each turn multiplies the bytes of the entries behind
-- by 256 and adds that of one before them.
use mathlib.Core.Path.{◌≡◌, sym, ap, ◌∙◌}
use Prim.Native.Nat.{ℕ, ◌+◌, ◌-◌, ◌*◌, ◌/◌, ◌%◌, ◌^◌, ◌≤◌, ◌<◌}
use native.Mathlib.Omega.{arith}
use mathlib.Core.List.{List}
use lib.ListN.{length, get_or}
use Rattle.vertical_turn.specs.PlanesFromBytes.{gathered_from, gathered_none, gathered-step, gathered-fits}
use Rattle.vertical_turn.specs.PlanesFromBytes.{gathered_all}
use Rattle.vertical_turn.proofs.gathering.gather_one.Goals as goal

-- the bytes with one entry's more, and that they fit
more : (xs : List ℕ) (low r b x : ℕ) → 0 < b → b ≤ 8 → 8 * b ≤ length xs + r → r < 8 → x ≡ gathered_from xs low r b
    → (gathered_from xs low r (b - 1) ≡ x * 256 + get_or xs (8 * (b - 1) + (7 - r)) 0 / 2 ^ low % 256)
    × (gathered_from xs low r (b - 1) < 2 ^ 64)
more xs low r b x some few within eight so =
    let e : b - 1 + 1 ≡ b = omega arith in (
      gathered-step xs low r (b - 1) (omega arith)
          ∙ ap (λ (y : ℕ). y * 256 + get_or xs (8 * (b - 1) + (7 - r)) 0 / 2 ^ low % 256)
          (ap (gathered_from xs low r) e ∙ sym so),
      gathered-fits xs low r (b - 1),
    )

pub loop-b-init : goal.loop-b-init
loop-b-init c =
    let a = c.args in
    let xs = a.entries.now in
    sym (gathered_none xs a.low a.r ((length xs + a.r) / 8) (omega arith) (omega arith))

pub overflow_mul-x : goal.overflow_mul-x
overflow_mul-x c =
    let l = c.loop-b in
    let a = c.args in
    let next =
    more a.entries.now a.low a.r l.b l.x (omega arith) (omega arith) (omega arith) (omega arith) l.invariant in
    omega (arith, next)

pub overflow_add-x : goal.overflow_add-x
overflow_add-x c =
    let l = c.loop-b in
    let a = c.args in
    let next =
    more a.entries.now a.low a.r l.b l.x (omega arith) (omega arith) (omega arith) (omega arith) l.invariant in
    omega (arith, next)

pub loop-b-preserved : goal.loop-b-preserved
loop-b-preserved c =
    let l = c.loop-b in
    let a = c.args in
    let next =
    more a.entries.now a.low a.r l.b l.x (omega arith) (omega arith) (omega arith) (omega arith) l.invariant in
    sym next.0

pub returns : goal.returns
returns c =
    let a = c.args in
    let e : c.loop-b.b ≡ 0 = omega arith in
    c.loop-b.invariant ∙ ap (gathered_from a.entries.now a.low a.r) e
    ∙ gathered_all a.entries.now a.low a.r
