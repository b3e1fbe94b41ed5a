-- `unpack::dictionary::place` meets its contract: a column without a fault has its width byte, and the stream
-- behind it is good.
use mathlib.Core.Path.{ap, ◌∙◌}
use mathlib.Core.List.{List}
use Prim.Native.Nat.{ℕ}
use native.Mathlib.Omega.{arith}
use borrow.Author.Rules.{rules}
use Rattle.rules.specs.Dictionary.{value}
use Rattle.words.specs.Puts.{part_rest}
use Rattle.runs_walk.specs.Placed.{placed}
use Rattle.dictionary_scan.specs.Values.{good-dictionary}
use Rattle.dictionary_indexes.specs.IndexPage as Pages
use Rattle.dictionary_indexes.specs.IndexPage.{good-page, width_of, indexes-placed}
use Rattle.dictionary_scan.specs.GoodColumn.{Good, good-column}
use Rattle.unpack.proofs.dictionary.place.Goals as goal

pub bounds-page-0 : goal.bounds-page-0
bounds-page-0 c =
    let column : Good c.args.dict.now c.args.n c.args.page.now = good-column _ _ _ c.requires.2 in
    let page : Pages.Good c.args.n c.args.page.now = good-page _ _ (column).reads in
    (page).some

pub overflow_cast-width : goal.overflow_cast-width
overflow_cast-width c = omega (arith, c.shared_slice_known-3-1.given 0)

pub slice_bounds-look_up_runs-count : goal.slice_bounds-look_up_runs-count
slice_bounds-look_up_runs-count c =
    let column : Good c.args.dict.now c.args.n c.args.page.now = good-column _ _ _ c.requires.2 in
    let page : Pages.Good c.args.n c.args.page.now = good-page _ _ (column).reads in
    omega (arith, (page).some)

pub slice_bounds-look_up_runs-start : goal.slice_bounds-look_up_runs-start
slice_bounds-look_up_runs-start c =
    let column : Good c.args.dict.now c.args.n c.args.page.now = good-column _ _ _ c.requires.2 in
    let page : Pages.Good c.args.n c.args.page.now = good-page _ _ (column).reads in
    let g = page in search rules

pub look_up_runs-requires : goal.look_up_runs-requires
look_up_runs-requires c =
    let column : Good c.args.dict.now c.args.n c.args.page.now = good-column _ _ _ c.requires.2 in
    let page : Pages.Good c.args.n c.args.page.now = good-page _ _ (column).reads in
    let s = c in
    ((good-dictionary _ (column).dictionary).whole, (page).within, s.requires.0, s.requires.1)

pub returns : goal.returns
returns c =
    let column : Good c.args.dict.now c.args.n c.args.page.now = good-column _ _ _ c.requires.2 in
    let s = c in
    let a = s.args in
    c.look_up_runs.ensures
    ∙ ap (λ (l : List ℕ). placed (value a.dict.now) (width_of a.page.now) a.n l a.entries.now)
    (part_rest a.page.now 1)
    ∙ indexes-placed (value a.dict.now) a.n a.page.now a.entries.now s.requires.1 (column).reads
