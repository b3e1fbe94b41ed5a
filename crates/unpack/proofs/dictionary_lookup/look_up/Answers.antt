-- `unpack::dictionary_lookup::look_up` meets its contract: each turn fills one place more.
use Rattle.std.proofs.Common.{◌≡◌, ℕ, List, ◌++◌, length, get_or, set, take, drop, ap, ap₂, ◌∙◌, arith, length-take-le, w32}
use lib.IntN.{ℤ}
use mir.ValLaws.{to_z-of_z}
use Rattle.rules.specs.Bits.{tabulate}
use Rattle.rules.specs.Dictionary.{value}
use Rattle.words.specs.Tabulated.{length-tabulate, tabulate-none, put-tabulate}
use Rattle.unpack.proofs.Filled.{front}
use Rattle.unpack.proofs.dictionary_lookup.look_up.Goals as goal

pub loop-i-init : goal.loop-i-init
loop-i-init c =
    let a = c.args in tabulate-none (take a.m a.places.now) 0 (λ k. value a.dict.now (get_or a.indexes.now k 0))

pub loop-i-preserved : goal.loop-i-preserved
loop-i-preserved c =
    let l = c.loop-i in
    let a = c.args in
    let v = c.value_any in
    let looked = to_z-of_z w32 v.result (record { sfits = v.type_inv }) ∙ v.ensures in
    ap₂ (λ (o : List ℤ) (x : ℤ). set o l.i x) l.invariant looked
    ∙ put-tabulate (take a.m a.places.now) l.i (λ k. value a.dict.now (get_or a.indexes.now k 0)) (omega arith)

pub returns : goal.returns
returns c =
    let a = c.args in
    let f : ℕ → ℤ = λ k. value a.dict.now (get_or a.indexes.now k 0) in
    let size : length (take a.m a.places.now) ≡ a.m = length-take-le a.m a.places.now (omega arith) in
    let all : c.loop-i.i ≡ a.m = omega arith in
    ap (λ (o : List ℤ). o ++ drop a.m a.places.now) (rw all at c.loop-i.invariant)
    ∙ front a.places.now (tabulate a.m f) a.m (length-tabulate a.m f)
