-- `Range::write_same` meets its contract: bits put in the part from byte i / 8 on are bits put in the bitmap.
use Rattle.std.proofs.Common.{◌/◌, ◌%◌, ap, ◌∙◌, arith}
use Rattle.std.specs.Prelude.{Bool}
use Rattle.rules.specs.Bits.{word}
use Rattle.words.specs.Appended.{appended, part_appended}
use Rattle.runs_walk.proofs.marking.RangeRunWriting.write_same.Goals as goal

pub returns : goal.returns
returns c =
    let a = c.args in
    part_appended a.bitmap.now _ (a.i / 8) (a.i % 8) a.i _ a.m (omega arith) c.mark_same.ensures
    ∙ ap (λ (t : Bool). appended a.bitmap.now a.i (word a.m (λ _. t)) a.m) c.passes.ensures
