-- `scan_page::layouts::scan` meets its contract: by the layout.
use Rattle.std.proofs.Common.{rules}
use Rattle.scan_page.specs.Layouts.{scan_of}
use Rattle.scan_page.proofs.layouts.scan.Goals as goal

pub returns-in-Horizontal : goal.returns-in-Horizontal
unfolding scan_of
returns-in-Horizontal c = search rules

pub returns-in-Planes : goal.returns-in-Planes
unfolding scan_of
returns-in-Planes c = search rules

pub returns-in-Runs : goal.returns-in-Runs
unfolding scan_of
returns-in-Runs c = search rules

pub returns-in-Delta : goal.returns-in-Delta
unfolding scan_of
returns-in-Delta c = search rules

pub returns-in-Dictionary : goal.returns-in-Dictionary
unfolding scan_of
returns-in-Dictionary c = search rules
