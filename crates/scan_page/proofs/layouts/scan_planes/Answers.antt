-- `scan_page::layouts::scan_planes` meets its contract: the words put are those scanned.
use mathlib.Core.Path.{◌≡◌, ◌∙◌, ap}
use mathlib.Core.List.{List}
use Prim.Native.Nat.{ℕ}
use mir.Syntax.{w64}
use mir.Val.{to_z, of_z}
use borrow.Author.Rules.{rules}
use Rattle.rules.specs.Vertical as Vertical
use Rattle.scan_page.specs.Layouts.{front-words}
use Rattle.scan_page.proofs.layouts.scan_planes.Goals as goal

pub returns : goal.returns
returns c =
    let q = c.args.q in
    let w = c.words_of-k in
    let a : to_z w64 (of_z w64 q.a) ≡ q.a = search rules in
    let b : to_z w64 (of_z w64 q.b) ≡ q.b = search rules in
    rw (a, b) at c.scan.ensures
    ∙ ap (λ (l : List ℕ). Vertical.scan l c.args.width c.args.n q.op q.a q.b c.args.bitmap.now)
    (front-words _ _ c.args.page.now w.result (search rules) w.ensures.value w.ensures.words_after)
