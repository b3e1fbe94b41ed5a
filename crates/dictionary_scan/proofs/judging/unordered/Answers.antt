-- `dictionary_scan::judging::unordered` meets its contract. The loop's invariant: what was found is what the values
-- before value k have.
use mathlib.Core.Path.{◌≡◌, refl, ap, ap₂, ◌∙◌}
use mathlib.Core.Bool.{◌||◌}
use mathlib.Core.List.{List}
use Prim.Native.Nat.{ℕ, suc, ◌-◌, ◌/◌, ◌<◌}
use Rattle.std.specs.Prelude.{ℤ}
use native.Mathlib.Omega.{arith}
use lib.ListN.{length}
use lib.Signed.{le_z}
use mir.Syntax.{w32}
use mir.Val.{SFits, to_z, of_z}
use mir.ValLaws.{to_z-of_z}
use Rattle.rules.specs.Bits.{some_below}
use Rattle.rules.specs.Dictionary as Dictionary
use Rattle.rules.specs.Dictionary.{value}
use Rattle.words.specs.SomeBelow.{some_next}
use Rattle.dictionary_scan.proofs.judging.unordered.Goals as goal

pub loop-k-init : goal.loop-k-init
unfolding some_below
loop-k-init c = (omega arith, refl)

-- the two values are read back from their bits
tested : (dict : List ℕ) (k : ℕ) {here before : ℤ} → 0 < k → SFits w32 here → SFits w32 before → here ≡ value dict k
    → before ≡ value dict (k - 1)
    → le_z (to_z w32 (of_z w32 here)) (to_z w32 (of_z w32 before)) ≡ le_z (value dict (suc (k - 1))) (value dict (k - 1))
tested dict k {here = here} {before = before} some fits fits' is is' =
    ap₂ le_z (to_z-of_z w32 here fits ∙ is ∙ ap (value dict) (omega arith)) (to_z-of_z w32 before fits' ∙ is')

pub loop-k-preserved : goal.loop-k-preserved
loop-k-preserved c =
    let dict = c.args.dict.now in
    let here = c.value_at in
    let before = c.value_at-in-loop-k in
    let k = c.loop-k.k in
    let found =
    ap₂ ◌||◌ c.loop-k.invariant.1
    (tested dict k (omega arith) (record { sfits = here.type_inv }) (record { sfits = before.type_inv }) here.ensures
    before.ensures)
    ∙ some_next (k - 1) (λ j. le_z (value dict (suc j)) (value dict j)) in
    (omega arith, found ∙ ap (λ (n : ℕ). some_below n (λ j. le_z (value dict (suc j)) (value dict j))) (omega arith))

pub returns : goal.returns
unfolding Dictionary.unordered
returns c =
    let dict = c.args.dict.now in
    let all : c.loop-k.k - 1 ≡ length dict / 4 - 1 = omega arith in
    c.loop-k.invariant.1 ∙ ap (λ (n : ℕ). some_below n (λ j. le_z (value dict (suc j)) (value dict j))) all
