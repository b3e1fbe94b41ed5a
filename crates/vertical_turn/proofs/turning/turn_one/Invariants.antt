-- The loop's invariant: the bits of the words passed are in every byte.
use mathlib.Core.Path.{◌≡◌}
use Rattle.vertical_turn.specs.Turned.{turned}
use Rattle.vertical_turn.proofs.turning.turn_one.Given as goal

abbrev pub invariant-loop-word : goal.invariant-loop-word
invariant-loop-word l = l.x ≡ turned l.words l.at l.word-index l.i
