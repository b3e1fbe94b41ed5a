-- `dictionary_indexes::index_page::select_range` meets its contract: a page without a fault has its width byte, and
-- the stream behind it is good.
use mathlib.Core.Path.{ap, ◌∙◌}
use mathlib.Core.List.{List}
use Prim.Native.Nat.{ℕ}
use native.Mathlib.Omega.{arith}
use borrow.Author.Rules.{rules}
use Rattle.compare.specs.Range.{ranged}
use Rattle.words.specs.Puts.{part_rest}
use Rattle.runs_walk.specs.Marked.{marked}
use Rattle.dictionary_indexes.specs.IndexPage.{good-page, width_of, indexes-marked}
use Rattle.dictionary_indexes.proofs.index_page.select_range.Goals as goal

pub bounds-page-0 : goal.bounds-page-0
bounds-page-0 c = (good-page c.args.n c.args.page.now c.requires.2).some

pub slice_bounds-mark_runs-count : goal.slice_bounds-mark_runs-count
slice_bounds-mark_runs-count c = omega (arith, (good-page c.args.n c.args.page.now c.requires.2).some)

pub slice_bounds-mark_runs-start : goal.slice_bounds-mark_runs-start
slice_bounds-mark_runs-start c = let good = good-page c.args.n c.args.page.now c.requires.2 in search rules

pub mark_runs-requires : goal.mark_runs-requires
mark_runs-requires c =
    let good = good-page c.args.n c.args.page.now c.requires.2 in
    (good.within, omega arith, omega arith, c.requires.3)

pub returns : goal.returns
returns c =
    let a = c.args in
    c.mark_runs.ensures
    ∙ ap (λ (l : List ℕ). marked (ranged a.range) (width_of a.page.now) a.n l a.bitmap.now)
    (part_rest a.page.now 1)
    ∙ indexes-marked (ranged a.range) a.n a.page.now a.bitmap.now c.requires.2
