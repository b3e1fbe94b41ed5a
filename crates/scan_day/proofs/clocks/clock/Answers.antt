-- `scan_day::clocks::clock` meets its contract: six pieces one behind another.
use mathlib.Core.List.{[], ◌∷◌}
use Prim.Native.Nat.{◌+◌, ◌/◌, ◌%◌}
use Rattle.lines.specs.Text.{held}
use Rattle.scan_day.specs.Clock.{two_digits, clock_time, of_day, laid_six}
use Rattle.scan_day.proofs.clocks.clock.Goals as goal

pub returns : goal.returns
unfolding clock_time
returns c =
    let n = c.args.second in
    cc
    (laid_six (held c.args.line) (two_digits (n / 3600 % 24)) (58 ∷ []) (two_digits (n / 60 % 60)) (58 ∷ [])
    (two_digits (n % 60)) (of_day (c.args.day + n / 86400)))
