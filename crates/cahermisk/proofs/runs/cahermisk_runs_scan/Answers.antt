-- `cahermisk::runs::cahermisk_runs_scan` meets its contract: the constants come through the call as they are.
use mir.Syntax.{w64}
use mir.ValLaws.{to_z-of_z}
use Rattle.cahermisk.proofs.runs.cahermisk_runs_scan.Goals as goal

pub returns : goal.returns
returns c =
    let s = c in
    rw c.into.ensures
    (rw (to_z-of_z w64 s.args.a s.ranges.a, to_z-of_z w64 s.args.b s.ranges.b) at
    c.scan.ensures)
