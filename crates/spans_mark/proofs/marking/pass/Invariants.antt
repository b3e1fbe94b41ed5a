-- `spans_mark::marking::pass` meets its contract. The loop's invariant: the words in front of word q are in place.
use mathlib.Core.Path.{◌≡◌}
use Prim.Native.Nat.{◌-◌, ◌*◌}
use Rattle.rules.specs.Bits.{put}
use Rattle.spans_mark.specs.Words.{filled, passed}
use Rattle.spans_mark.proofs.marking.pass.Given as goal

abbrev pub invariant-loop-q : goal.invariant-loop-q
invariant-loop-q l =
    (l.word ≡ passed (l.q - l.at) l.x l.rest)
    × (l.bitmap ≡ put l.initial.bitmap (8 * l.at) (filled (l.q - l.at) l.x l.rest))
