-- `delta_octets::placing::place_whole` meets its contract: an entry more each turn.
use Rattle.delta_octets.specs.Steps.{step_from}
use Rattle.delta_octets.specs.EntryByEntry.{Passed}
use Rattle.delta_octets.specs.TwoWritings.{places}
use Rattle.delta_octets.proofs.placing.place_whole.Given as goal

abbrev pub invariant-loop-u : goal.invariant-loop-u
invariant-loop-u l =
    Passed (places 32) 32 l.from (step_from l.least l.body l.at l.w) l.i l.initial.entries l.u l.x l.entries
