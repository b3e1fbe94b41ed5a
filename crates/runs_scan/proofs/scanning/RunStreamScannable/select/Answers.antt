-- `RunStream::select` meets its contract: the band's range selects what the band does.
use mathlib.Core.Path.{ap, ◌∙◌}
use Rattle.answers.specs.Laws.{within-limits}
use Rattle.compare.specs.Range.{ranged}
use Rattle.compare.specs.Ranges.{range-usable}
use Rattle.runs_walk.specs.Marked.{marked}
use Rattle.runs_walk.specs.Values.{marked-banded}
use Rattle.runs_scan.proofs.scanning.RunStreamScannable.select.Goals as goal

pub mark_runs-requires : goal.mark_runs-requires
mark_runs-requires c =
    let within = within-limits _ _ c.requires.0 in
    (within.0, within.1, c.requires.2, rw c.range_of.ensures (range-usable _))

pub returns : goal.returns
returns c =
    let a = c.args in
    let page = a.self.page.now in
    let w = a.self.width in
    c.mark_runs.ensures ∙ ap (λ r. marked (ranged r) w a.n page a.bitmap.now) c.range_of.ensures
    ∙ marked-banded a.band w a.n page a.bitmap.now (within-limits _ _ c.requires.0).0 c.requires.1
