-- `vertical_planes::groups::told` meets its contract: the test of the band's side picks the lanes.
use Rattle.vertical_planes.proofs.groups.told.Goals as goal

pub returns-then-band : goal.returns-then-band
returns-then-band c = rw c.if-band.true

pub returns-else-band : goal.returns-else-band
returns-else-band c = rw c.if-band.false
