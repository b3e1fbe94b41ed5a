-- `vertical_turn::unpacking::unpack_group` meets its contract: first the digits of the planes that are left over of
-- eights, then each turn adds eight planes' digits to every entry.
use mathlib.Core.Path.{◌≡◌, refl, ap, ◌∙◌}
use mathlib.Core.List.{List}
use Prim.Native.Nat.{ℕ, ◌+◌, ◌*◌, ◌%◌, ◌≤◌}
use native.Mathlib.Omega.{arith}
use native.Mathlib.Nat.{add_comm}
use lib.ListN.{length, get_or}
use Rattle.rules.specs.Bits.{put, tabulate}
use Rattle.rules.specs.Vertical.{lane}
use Rattle.vertical_turn.specs.Rows.{behind}
use Rattle.vertical_turn.specs.Unpacked.{next_planes}
use Rattle.vertical_turn.proofs.unpacking.unpack_group.Goals as goal
use Rattle.vertical_turn.proofs.unpacking.unpack_group.Goals.{then-rest-gt0, else-rest-gt0}

-- no plane passed: every entry is 0
none-passed : (l planes : List ℕ) (m : ℕ)
    → put l 0 (tabulate m (λ (j : ℕ). 0)) ≡ put l 0 (tabulate m (lane planes 0 0))
unfolding lane
none-passed l planes m = refl

-- the planes that are left over of eights
first : (planes l : List ℕ) {cleared : List ℕ} (m n : ℕ) → n ≤ 32
    → cleared ≡ put l 0 (tabulate m (λ (j : ℕ). 0))
    → put cleared 0 (tabulate m (λ j. behind (get_or cleared j 0) (lane planes 0 n j)))
    ≡ put l 0 (tabulate m (lane planes 0 (n + 0)))
first planes l m n few is =
    let none = is ∙ none-passed l planes m in
    rw (none, add_comm n 0) (next_planes planes l 0 n m (omega arith) (λ h. omega arith))

pub loop-q-init : goal.loop-q-init
loop-q-init c =
    let a = c.args in
    let ps = a.planes.now in
    elim c.if-rest-gt0.branch [
      | then-rest-gt0 w ↦
          w.entries-is ∙ w.add_planes.ensures
          ∙ first ps a.entries.now a.m (length ps % 8) (omega arith) c.clear.ensures
      | else-rest-gt0 w ↦
          let none : length ps % 8 + 0 ≡ 0 = omega arith in
          w.entries-is ∙ rw none (c.clear.ensures ∙ none-passed a.entries.now ps a.m)
    ]

pub loop-q-preserved : goal.loop-q-preserved
loop-q-preserved c =
    let a = c.args in
    let l = c.loop-q in
    let ps = a.planes.now in
    let at : ℕ = length ps % 8 + 8 * l.q in
    let next : length ps % 8 + 8 * (l.q + 1) ≡ at + 8 = omega arith in
    rw next
    (c.add_planes-in-loop-q.ensures
    ∙ rw l.invariant (next_planes ps _ at 8 a.m (omega arith) (λ h. omega arith)))

pub returns : goal.returns
returns c =
    let a = c.args in
    let ps = a.planes.now in
    let all : length ps % 8 + 8 * c.loop-q.q ≡ length ps = omega arith in
    c.loop-q.invariant ∙ ap (λ (w : ℕ). put a.entries.now 0 (tabulate a.m (lane ps 0 w))) all
