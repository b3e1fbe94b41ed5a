-- `delta_read::blocks::needed_of` meets its contract.
use borrow.Author.Rules.{rules}
use Rattle.rules.specs.Delta.{needed}
use Rattle.delta_read.proofs.blocks.needed_of.Goals as goal

pub returns : goal.returns
unfolding needed
returns c = search rules
