-- `packed_select::tail` meets its contract: zeros behind the page's rest change no entry.
use mathlib.Core.Path.{ap, ◌∙◌}
use mathlib.Core.List.{List}
use Prim.Native.Nat.{ℕ, ◌*◌}
use lib.ListN.{drop}
use Rattle.rules.specs.Bits.{put}
use Rattle.packed_kernels.specs.Selected.{selected, ranging}
use Rattle.packed_kernels.specs.GroupByGroup.{none-selected}
use Rattle.packed_select.specs.TwoPieces.{selected-padded}
use Rattle.packed_select.proofs.tail.Goals as goal

pub returns-then-k-eq0 : goal.returns-then-k-eq0
returns-then-k-eq0 c =
    let a = c.args in
    rw c.if-k-eq0.true
    (none-selected a.bitmap.now (drop a.a a.page.now) a.w (ranging a.low a.span a.flip))

pub returns : goal.returns
returns c =
    let a = c.args in
    c.select_groups.ensures
    ∙ ap
    (λ (r : List ℕ). put a.bitmap.now 0
    (selected r (8 * a.k) a.w (ranging a.low a.span a.flip)))
    c.copy.ensures
    ∙ ap (put a.bitmap.now 0)
    (selected-padded (drop a.a a.page.now) 80 (8 * a.k) a.w (ranging a.low a.span a.flip))
