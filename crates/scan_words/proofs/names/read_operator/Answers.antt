-- `scan_words::names::read_operator` meets its contract: the words looked up are those of `operators`, with what they stand for.
use Rattle.lines.specs.Text.{ascii}
use Rattle.scan_words.specs.Names.{words, operators, numbers}
use Rattle.scan_words.specs.LookedUp.{number_low}
use Rattle.scan_words.proofs.names.read_operator.Goals as goal

pub returns-clause-value : goal.returns-clause-value
unfolding ascii words operators numbers
returns-clause-value c = c.named.ensures

pub returns-clause-known : goal.returns-clause-known
unfolding ascii words operators numbers
returns-clause-known c = number_low _ _ c.named.ensures
