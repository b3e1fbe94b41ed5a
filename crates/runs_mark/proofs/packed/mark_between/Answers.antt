-- `runs_mark::packed::mark_between` meets its contract: the part's entries are the body's from byte `from` on.
use mathlib.Core.Path.{ap, ◌∙◌}
use Prim.Native.Nat.{ℕ, ◌-◌}
use native.Mathlib.Omega.{arith}
use Rattle.words.specs.Appended.{appended}
use Rattle.compare.specs.Range.{ranged}
use Rattle.runs_mark.specs.BodyParts.{part_word}
use Rattle.runs_mark.proofs.packed.mark_between.Goals as goal

pub returns : goal.returns
returns c =
    let a = c.args in
    c.mark_part.ensures
    ∙ ap (λ (x : ℕ). appended a.bitmap.now a.p x a.k)
    (part_word a.body.now a.from (a.to - a.from) a.w a.k (ranged a.range) (omega arith))
