-- `scan_words::names::read_instead` meets its contract: the words looked up are those of `insteads`, with what they stand for.
use Rattle.lines.specs.Text.{ascii}
use Rattle.scan_words.specs.Names.{words, insteads, pleas}
use Rattle.scan_words.proofs.names.read_instead.Goals as goal

pub returns : goal.returns
unfolding ascii words insteads pleas
returns c = c.named.ensures
