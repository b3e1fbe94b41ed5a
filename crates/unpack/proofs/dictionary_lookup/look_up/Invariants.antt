-- `unpack::dictionary_lookup::look_up` meets its contract: each turn fills one place more.
use Rattle.std.proofs.Common.{◌≡◌, get_or}
use Rattle.rules.specs.Bits.{put, tabulate}
use Rattle.rules.specs.Dictionary.{value}
use Rattle.unpack.proofs.dictionary_lookup.look_up.Given as goal

abbrev pub invariant-loop-i : goal.invariant-loop-i
invariant-loop-i l =
    l.place-items ≡ put l.initial.place-items 0 (tabulate l.i (λ k. value l.dict (get_or l.indexes k 0)))
