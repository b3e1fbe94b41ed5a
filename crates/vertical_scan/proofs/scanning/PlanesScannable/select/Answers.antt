-- `Planes::select` meets its contract: it is that of all n entries, whose column is as long as they are.
use Rattle.answers.specs.Laws.{within-limits}
use Rattle.vertical_scan.specs.Chosen.{chosen}
use Rattle.vertical_scan.specs.GoodColumn.{good-column}
use Rattle.vertical_scan.proofs.scanning.PlanesScannable.select.Goals as goal

pub select-requires : goal.select-requires
select-requires c =
    let within = within-limits _ _ c.requires.0 in
    (within.0, within.1, (good-column _ _ _ c.requires.1).0, c.requires.2)

pub returns : goal.returns
unfolding chosen
returns c = c.select.ensures
