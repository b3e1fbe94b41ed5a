-- `delta_decode::blocks::write_mini` meets its contract: up to eight entries more each turn.
use Rattle.std.proofs.Common.{◌≡◌, ◌-◌, ◌%◌, min}
use Rattle.delta_octets.specs.Steps.{packed_step}
use Rattle.delta_octets.specs.EntryByEntry.{Passed}
use Rattle.delta_decode.proofs.blocks.write_mini.Given as goal

abbrev pub invariant-loop-j : goal.invariant-loop-j
invariant-loop-j g l =
    (l.j % 8 ≡ 0)
    × Passed (g.T.Writing.write l.writing) 32 l.from (packed_step l.least l.body l.w) l.i l.initial.out (min l.j l.k)
    l.x l.out

abbrev pub decreases-loop-j : goal.decreases-loop-j
decreases-loop-j g l = l.k - l.j
