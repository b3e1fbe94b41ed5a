-- `pack::vertical::pack_groups` meets its contract. The loop's invariant: the planes of the groups passed are in
-- place.
use mathlib.Core.Path.{◌≡◌, sym, ap, ◌∙◌}
use mathlib.Core.List.{List}
use Prim.Native.Nat.{ℕ, ◌+◌, ◌*◌, ◌/◌, ◌%◌}
use native.Mathlib.Omega.{arith}
use lib.ListN.{length}
use Rattle.rules.specs.Bits.{put, tabulate}
use Rattle.rules.specs.Vertical.{plane, packed}
use native.Mathlib.Nat.{zero-mul, suc-mul}
use native.Mathlib.Numerals.{add-one}
use Rattle.words.specs.Puts.{put-none}
use Rattle.words.specs.Entries.{place-within}
use Rattle.vertical_turn.specs.ColumnThereAndBack.{next_group_planes}
use Rattle.pack.proofs.vertical.pack_groups.Goals as goal

pub loop-g-init : goal.loop-g-init
unfolding tabulate
loop-g-init c =
    let a = c.args in
    rw (zero-mul a.w) (put-none a.words.now 0)

pub pack_one-requires : goal.pack_one-requires
pack_one-requires c =
    let a = c.args in
    let l = c.loop-g in
    omega (arith, place-within a.w l.g ((length a.entries.now + 63) / 64) (omega arith))

pub loop-g-preserved : goal.loop-g-preserved
loop-g-preserved c =
    let s = c in
    let l = s.loop-g in
    let a = s.args in
    let more : l.g * a.w + a.w ≡ (l.g + 1) * a.w = rw add-one (sym (suc-mul l.g a.w)) in
    s.pack_one.ensures
    ∙ ap (λ (x : List ℕ). put x (l.g * a.w) (tabulate a.w (plane a.w a.entries.now l.g)))
    l.invariant
    ∙ next_group_planes a.words.now a.entries.now a.w l.g
    (omega (arith, place-within a.w l.g ((length a.entries.now + 63) / 64) (omega arith)))
    ∙ ap
    (λ (k : ℕ). put a.words.now 0
    (tabulate k (λ i. plane a.w a.entries.now (i / a.w) (i % a.w)))) more

pub returns : goal.returns
unfolding packed
returns c =
    let a = c.args in
    let all : c.loop-g.g ≡ (length a.entries.now + 63) / 64 = omega arith in
    c.loop-g.invariant
    ∙ ap
    (λ (k : ℕ). put a.words.now 0
    (tabulate (k * a.w) (λ i. plane a.w a.entries.now (i / a.w) (i % a.w)))) all
