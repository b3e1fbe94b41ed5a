-- `delta_decode::pages::write_blocks` meets its contract: a block more each turn, and then the entry that may be
-- left.
use Prim.Native.Nat.{◌-◌}
use Rattle.rules.specs.Delta.{blocks_at}
use Rattle.delta_decode.specs.PageEntries.{deltas_of, Pass}
use Rattle.delta_decode.proofs.pages.write_blocks.Given as goal

abbrev pub invariant-loop-left : goal.invariant-loop-left
invariant-loop-left g l =
    Pass (g.T.Writing.write l.writing) 32 l.page l.size l.minis l.n l.from
    (deltas_of (blocks_at 32 l.size l.minis (l.n - 1) (l.n - 1) l.page l.start))
    l.initial.out l.left l.at l.i l.x l.out

abbrev pub decreases-loop-left : goal.decreases-loop-left
decreases-loop-left g l = l.left
