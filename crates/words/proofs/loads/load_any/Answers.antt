-- `words::loads::load_any` meets its contract: nothing past the end, a shorter tail, or eight bytes.
use mathlib.Core.Path.{sym, ap, ◌∙◌}
use lib.ListN.{drop, length-drop}
use lib.Seq.{take_all}
use Rattle.rules.specs.Bits.{number}
use Rattle.words.specs.Bytes.{number-end}
use native.Mathlib.Omega.{arith}
use Rattle.words.proofs.loads.load_any.Goals as goal

pub returns-in-0 : goal.returns-in-0
returns-in-0 c =
    let a = c.args in
    sym
    (ap number (take_all 8 (drop a.at a.s.now) (omega (arith, length-drop a.at a.s.now)))
    ∙ number-end a.s.now a.at (omega arith))

pub returns-in-1-to-7 : goal.returns-in-1-to-7
returns-in-1-to-7 c =
    let a = c.args in
    c.load_tail.ensures
    ∙ ap number (sym (take_all 8 (drop a.at a.s.now) (omega (arith, length-drop a.at a.s.now))))
