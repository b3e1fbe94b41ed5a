-- `spans_list::from_bitmap::is_short` meets its contract: in room for any bitmap no count is needed.
use mathlib.Core.Path.{sym, ◌∙◌}
use native.Mathlib.Omega.{arith}
use lib.ListN.{length}
use borrow.Author.Tests.{le-ltb}
use Rattle.rules.specs.Spans.{spans}
use Rattle.spans_list.specs.Turns.{spans-enough}
use Rattle.spans_list.proofs.from_bitmap.is_short.Goals as goal

pub returns-else-places-n : goal.returns-else-places-n
returns-else-places-n c =
    let a = c.args in
    le-ltb _ _ c.if-places-n.false
    ∙ sym
    (le-ltb a.places (length (spans a.bitmap.now a.n))
    (omega (arith, spans-enough a.bitmap.now a.n, c.if-places-n.false)))
