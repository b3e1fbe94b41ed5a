-- `delta_octets::placing::place_few` meets its contract: an entry more each turn.
use Rattle.std.proofs.Common.{◌+◌}
use Rattle.delta_octets.specs.Steps.{packed_step}
use Rattle.delta_octets.specs.EntryByEntry.{Passed}
use Rattle.delta_octets.specs.TwoWritings.{places}
use Rattle.delta_octets.proofs.placing.place_few.Given as goal

abbrev pub invariant-loop-u : goal.invariant-loop-u
invariant-loop-u l =
    Passed (places 32) 32 l.from (λ e. packed_step l.least l.body l.w (l.j + e)) l.i l.initial.entries l.u l.x
    l.entries
