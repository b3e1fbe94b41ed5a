-- `vectors_rows::asked` meets its contract: its pieces one behind another.
use Rattle.lines.specs.Text.{ascii}
use Rattle.vectors_rows.specs.Asked.{begun}
use Rattle.vectors_rows.proofs.asked.Goals as goal

pub returns : goal.returns
unfolding ascii
returns c =
    let s =
    c in
    begun s.args.page.now s.args.width s.args.n
    c.new.ensures
    c.words.ensures
    c.entries.ensures
    c.column-line.ensures
    c.words-2.ensures
    c.number-line.ensures
    c.words-3.ensures
    c.number.ensures
    c.column.ensures
