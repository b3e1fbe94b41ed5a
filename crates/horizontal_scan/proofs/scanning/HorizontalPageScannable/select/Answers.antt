-- `HorizontalPage::select` meets its contract: the band's range selects what the band does.
use mathlib.Core.Path.{ap, ◌∙◌}
use native.Mathlib.Omega.{arith}
use Rattle.rules.specs.Bits.{put}
use Rattle.answers.specs.Laws.{within-limits}
use Rattle.compare.specs.Range.{ranged}
use Rattle.compare.specs.Ranges.{range-usable}
use Rattle.packed_kernels.specs.Selected.{selected}
use Rattle.packed_select.specs.Banded.{selected-banded}
use Rattle.horizontal_scan.specs.GoodPage.{good-page}
use Rattle.horizontal_scan.proofs.scanning.HorizontalPageScannable.select.Goals as goal

pub select-requires : goal.select-requires
select-requires c =
    let within = within-limits _ _ c.requires.0 in
    let exact = (good-page _ _ _ _ c.requires.1).0 in (
      within.0,
      within.1,
      omega (arith, exact),
      omega (arith, exact),
      c.requires.2,
      rw c.range_of.ensures (range-usable _),
    )

pub returns : goal.returns
returns c =
    let a = c.args in
    let page = a.self.page.now in
    let w = a.self.width in
    c.select.ensures ∙ ap (λ r. put a.bitmap.now 0 (selected page a.n w (ranged r))) c.range_of.ensures
    ∙ ap (put a.bitmap.now 0) (selected-banded page a.n w a.band (within-limits _ _ c.requires.0).0)
