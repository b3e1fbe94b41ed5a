-- `scan_stretches::told::in_stretches` meets its contract: four pieces one behind another.
use mathlib.Core.Bool.{cond}
use mathlib.Core.List.{[], ◌++◌}
use lib.Dec.{eqb}
use Rattle.lines.specs.Text.{ascii, laid, decimal}
use Rattle.lines.specs.Laws.{laid-laid}
use Rattle.scan_day.specs.Clock.{laid-three}
use Rattle.scan_stretches.specs.Told.{gaps_closed, in_stretches}
use Rattle.scan_stretches.proofs.told.in_stretches.Goals as goal

pub returns : goal.returns
unfolding in_stretches ascii
returns c =
    let a = c.args in
    let word = cond (eqb a.count 1) (ascii " stretch") (ascii " stretches") in
    cc (
      laid-three (laid [] (ascii ", in ")) (decimal a.count) word (gaps_closed a.gap),
      laid-laid [] (ascii ", in ") (decimal a.count ++ (word ++ gaps_closed a.gap)),
    )
