-- `runs_mark::packed::mark_inside` meets its contract. The loop's invariant: the entries of the parts passed are
-- marked.
use Prim.Native.Nat.{◌*◌}
use Rattle.rules.specs.Bits.{word, entry}
use Rattle.rules.specs.Bits.Order.{low_first}
use Rattle.compare.specs.Range.{ranged}
use Rattle.runs_mark.specs.SeveralGoes.{Begun}
use Rattle.runs_mark.proofs.packed.mark_inside.Given as goal

abbrev pub invariant-loop-part : goal.invariant-loop-part
invariant-loop-part l =
    Begun l.initial.bitmap l.p (word (448 * l.part) (λ k. ranged l.range (entry low_first l.body l.w k)))
    (448 * l.part) l.bitmap
