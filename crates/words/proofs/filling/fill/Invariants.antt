-- `words::filling::fill` meets its contract: each turn fills one place more.
use Rattle.std.proofs.Common.{◌≡◌}
use Rattle.rules.specs.Bits.{put, tabulate}
use Rattle.words.proofs.filling.fill.Given as goal

abbrev pub invariant-loop-place : goal.invariant-loop-place
invariant-loop-place g l =
    l.places ≡ put l.initial.places 0 (tabulate l.place-index (λ _. l.value))
