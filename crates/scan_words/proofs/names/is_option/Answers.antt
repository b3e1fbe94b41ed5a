-- `scan_words::names::is_option` meets its contract: its first two bytes.
use Rattle.std.proofs.Common.{◌∙◌}
use Rattle.scan_words.specs.LookedUp.{two_dashes}
use Rattle.scan_words.proofs.names.is_option.Goals as goal

pub returns : goal.returns
returns c = c.starts_with.ensures.value ∙ two_dashes c.args.word.now
