-- `DeltaPage::select` meets its contract: the band's range selects what the band does.
use Rattle.answers.specs.Laws.{within_count}
use Rattle.compare.specs.SignedRanges.{signed-range-whole}
use Rattle.delta_decode.specs.EntriesInRange.{selected-banded}
use Rattle.delta_scan.proofs.scanning.DeltaPageScannable.select.Goals as goal

pub select-requires : goal.select-requires
select-requires c = (
  within_count _ c.requires.0,
  c.requires.2,
  c.requires.1,
  rw c.signed_range_of.ensures (signed-range-whole _).fits,
)

pub returns : goal.returns
returns c =
    let a = c.args in
    selected-banded a.n a.self.page.now a.band _ _ _ c.signed_range_of.ensures c.select.ensures
