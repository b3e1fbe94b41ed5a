-- `scan_words::names::read_opening` meets its contract: the words looked up are those of `layouts`, with what they stand for.
use Rattle.lines.specs.Text.{ascii}
use Rattle.scan_words.specs.Names.{words, layouts, openings}
use Rattle.scan_words.proofs.names.read_opening.Goals as goal

pub returns : goal.returns
unfolding ascii words layouts openings
returns c = c.named.ensures
