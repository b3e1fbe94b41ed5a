-- `DictionaryColumn::select` meets its contract: an index is selected where its value is.
use mathlib.Core.Path.{ap, ◌∙◌}
use Rattle.rules.specs.Bits.{put}
use Rattle.rules.specs.Dictionary.{index_at}
use Rattle.answers.specs.Laws.{within_count}
use Rattle.bitmaps.specs.Bitmaps.{bitmap-ext}
use Rattle.compare.specs.Range.{ranged}
use Rattle.compare.specs.Ranges.{usable}
use Rattle.compare.specs.declared.ranges.Range.{Range}
use Rattle.dictionary_scan.specs.ValuePlaces.{index_whole, ranged_index}
use Rattle.dictionary_scan.specs.GoodColumn.{good-column}
use Rattle.dictionary_scan.proofs.scanning.DictionaryColumnScannable.select.Goals as goal

pub index_range-requires : goal.index_range-requires
index_range-requires c = (good-column _ _ _ c.requires.1).dictionary

pub select_range-requires : goal.select_range-requires
select_range-requires c =
    let good = good-column _ _ _ c.requires.1 in
    let whole = index_whole c.args.self.dict.now good.dictionary c.args.band in
    (within_count _ c.requires.0, c.requires.2, good.reads, rw c.index_range.ensures (usable whole))

pub returns : goal.returns
returns c =
    let a = c.args in
    let good = good-column _ _ _ c.requires.1 in
    let index = index_at a.n a.self.page.now in
    c.select_range.ensures
    ∙ ap (put a.bitmap.now 0)
    (bitmap-ext a.n
    (λ i l. ap (λ (x : Range). ranged x (index i)) c.index_range.ensures
    ∙ ranged_index a.self.dict.now good.dictionary a.band (index i) (good.below i l)))
