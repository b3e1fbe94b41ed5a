-- `Values::write_same` meets its contract: each place of the part holds the value.
use Rattle.std.proofs.Common.{rules, ap, ◌∙◌, arith}
use lib.IntN.{ℤ}
use mir.Syntax.{w32}
use mir.ValLaws.{to_z-of_z}
use Rattle.rules.specs.Bits.{put, tabulate}
use Rattle.unpack.proofs.Filled.{filled}
use Rattle.unpack.proofs.dictionary_lookup.ValuesRunWriting.write_same.Goals as goal

pub returns : goal.returns
returns c =
    let v = c.value_any in
    let a = c.args in
    filled a.entries.now c.fill.new.places a.i _ _ a.m _ c.fill.ensures
    (search rules) (omega arith)
    ∙ ap (λ (x : ℤ). put a.entries.now a.i (tabulate a.m (λ _. x)))
    (to_z-of_z w32 v.result (record { sfits = v.type_inv }) ∙ v.ensures)
