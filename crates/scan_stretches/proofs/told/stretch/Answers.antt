-- `scan_stretches::told::stretch` meets its contract: six pieces one behind another.
use mathlib.Core.List.{[]}
use Prim.Native.Nat.{◌-◌}
use Rattle.lines.specs.Text.{ascii, decimal}
use Rattle.scan_day.specs.Clock.{laid_six}
use Rattle.scan_stretches.specs.Told.{time_of, behind_time, stretch_of}
use Rattle.scan_stretches.proofs.told.stretch.Goals as goal

pub returns : goal.returns
unfolding stretch_of ascii
returns c =
    let a = c.args in
    let t = a.stretch in
    cc
    (laid_six [] (time_of a.has_days a.day t.first) (behind_time t.may_begin_earlier)
    (time_of a.has_days a.day (t.behind - 1)) (behind_time a.may_end_later) (decimal (t.behind - t.first))
    (ascii " s\n"))
