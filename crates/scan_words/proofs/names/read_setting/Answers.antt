-- `scan_words::names::read_setting` meets its contract: the words looked up are those of `options`, with what they stand for.
use Rattle.lines.specs.Text.{ascii}
use Rattle.scan_words.specs.Names.{words, options, settings}
use Rattle.scan_words.proofs.names.read_setting.Goals as goal

pub returns : goal.returns
unfolding ascii words options settings
returns c = c.named.ensures
