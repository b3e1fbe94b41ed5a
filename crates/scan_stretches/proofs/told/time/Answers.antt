-- `scan_stretches::told::time` meets its contract: the clock's time, and the first day behind it.
use Prim.Native.Nat.{◌+◌, ◌/◌}
use Rattle.lines.specs.Text.{held}
use Rattle.lines.specs.Laws.{laid-laid}
use Rattle.scan_day.specs.Clock.{clock_time}
use Rattle.scan_stretches.specs.Told.{first_day, time_of}
use Rattle.scan_stretches.proofs.told.time.Goals as goal

pub returns : goal.returns
unfolding time_of
returns c =
    let a = c.args in
    cc
    (laid-laid (held a.line) (clock_time a.day a.second)
    (first_day a.has_days (a.day + a.second / 86400)))
