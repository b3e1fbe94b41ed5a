-- `words::bits::append_at` meets its contract: the part from a byte on is the list's rest, and comes back in its
-- place.
use mathlib.Core.Path.{ap, ◌∙◌}
use mathlib.Core.List.{List, ◌++◌}
use Prim.Native.Nat.{ℕ, ◌/◌}
use lib.ListN.{take}
use Rattle.words.specs.Appended.{appended}
use Rattle.words.specs.Puts.{part_rest, back-rest}
use Rattle.words.proofs.bits.append_at.Goals as goal

pub returns : goal.returns
unfolding appended
returns c =
    let a = c.args in
    let l : List ℕ = a.out.now in
    back-rest l c.append.new.part (a.p / 8)
    ∙ ap (λ (y : List ℕ). take (a.p / 8) l ++ y) (c.append.ensures ∙ rw (part_rest l (a.p / 8)))
