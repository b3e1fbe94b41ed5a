-- `scan_question::options::sorted_out` meets its contract: each turn takes a word behind the program's name.
use Rattle.std.proofs.Common.{◌≡◌, length}
use Rattle.scan_question.specs.Options.{Left}
use Rattle.scan_question.proofs.options.sorted_out.Given as goal

abbrev pub invariant-loop-at : goal.invariant-loop-at
invariant-loop-at g l = (length l.words ≡ length l.initial.words) × Left l.asked.words l.words
