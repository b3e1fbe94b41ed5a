-- `runs_mark::packed::mark_part` meets its contract: the bits that the comparison leaves in zeros are the entries'
-- word.
use mathlib.Core.Path.{◌≡◌, ap, ◌∙◌}
use Prim.Native.Nat.{ℕ, ◌^◌, ◌<◌}
use Rattle.rules.specs.Bits.{number, word, entry}
use Rattle.rules.specs.Bits.Order.{low_first}
use Rattle.words.specs.Bits.{word_lt}
use Rattle.words.specs.Appended.{appended}
use Rattle.compare.specs.Range.{ranged}
use Rattle.runs_mark.specs.BodyParts.{selected-number}
use borrow.Author.Rules.{rules}
use Rattle.runs_mark.proofs.packed.mark_part.Goals as goal

pub append_bits-requires : goal.append_bits-requires
append_bits-requires c =
    let a = c.args in
    let select = c.select in
    let bits : number select.new.bitmap
    ≡ word a.k (λ i. ranged a.range (entry low_first a.part.now a.w i)) =
    ap number select.ensures ∙ selected-number a.part.now 64 a.w a.k (ranged a.range) in
    let small : number select.new.bitmap < 2 ^ a.k = rw bits (word_lt a.k _) in
    search rules

pub returns : goal.returns
returns c =
    let a = c.args in
    c.append_bits.ensures
    ∙ ap (λ (x : ℕ). appended a.bitmap.now a.p x a.k)
    (ap number c.select.ensures
    ∙ selected-number a.part.now 64 a.w a.k (ranged a.range))
