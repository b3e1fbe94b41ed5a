-- `vertical_turn::packing::pack_group` meets its contract: first the planes that are left over of eights, then each
-- turn stores eight planes more.
use mathlib.Core.Path.{◌≡◌, ap, ◌∙◌}
use Prim.Native.Nat.{ℕ, ◌+◌, ◌*◌, ◌%◌}
use native.Mathlib.Nat.{add-zero, zero-add}
use native.Mathlib.Omega.{arith}
use mathlib.Core.List.{List}
use Rattle.words.specs.Tabulated.{tabulate-none, tabulate-ext, put-tabulate_add}
use Rattle.rules.specs.Bits.{put, tabulate}
use Rattle.rules.specs.Vertical.{plane}
use Rattle.vertical_turn.proofs.packing.pack_group.Goals as goal
use Rattle.vertical_turn.proofs.packing.pack_group.Goals.{then-rest-gt0, else-rest-gt0}

-- the planes that are left over of eights
first : (l xs : List ℕ) (w n : ℕ)
    → put l 0 (tabulate n (λ t. plane w xs 0 (0 + t))) ≡ put l 0 (tabulate (n + 0) (plane w xs 0))
first l xs w n = rw add-zero (ap (put l 0) (tabulate-ext n _ _ (λ t h. ap (plane w xs 0) (zero-add t))))

pub loop-q-init : goal.loop-q-init
loop-q-init c =
    let a = c.args in
    elim c.if-rest-gt0.branch [
      | then-rest-gt0 w ↦ w.planes-is ∙ w.some_planes.ensures ∙ first a.planes.now a.entries.now a.w (a.w % 8)
      | else-rest-gt0 w ↦
          let none : a.w % 8 + 0 ≡ 0 = omega arith in
          w.planes-is ∙ rw none (tabulate-none a.planes.now 0 (plane a.w a.entries.now 0))
    ]

pub loop-q-preserved : goal.loop-q-preserved
loop-q-preserved c =
    let a = c.args in
    let l = c.loop-q in
    let k : ℕ = a.w % 8 + 8 * l.q in
    let next : a.w % 8 + 8 * (l.q + 1) ≡ k + 8 = omega arith in
    rw next
    (c.planes_together.ensures
    ∙ rw l.invariant
    (put-tabulate_add a.planes.now k 8 (plane a.w a.entries.now 0) (omega arith)))

pub returns : goal.returns
returns c =
    let a = c.args in
    let all : a.w % 8 + 8 * c.loop-q.q ≡ a.w = omega arith in
    c.loop-q.invariant
    ∙ ap (λ (n : ℕ). put a.planes.now 0 (tabulate n (plane a.w a.entries.now 0))) all
