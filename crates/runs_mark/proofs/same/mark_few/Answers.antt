-- `runs_mark::same::mark_few` meets its contract: m bits are below 2 ^ m.
use mathlib.Core.Path.{ap, ◌∙◌}
use Prim.Native.Nat.{ℕ, ◌^◌, ◌<◌}
use Rattle.words.specs.Bits.{word_lt}
use Rattle.words.specs.Appended.{appended}
use borrow.Author.Rules.{rules}
use Rattle.runs_mark.proofs.same.mark_few.Goals as goal

pub append_at-requires : goal.append_at-requires
append_at-requires c =
    let a = c.args in
    let small : c.same_bits.result < 2 ^ a.m = rw c.same_bits.ensures (word_lt a.m (λ _. a.selected)) in
    search rules

pub returns : goal.returns
returns c =
    let a = c.args in
    c.append_at.ensures
    ∙ ap (λ (x : ℕ). appended a.bitmap.now a.p x a.m) c.same_bits.ensures
