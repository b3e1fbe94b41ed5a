-- `unpack::dictionary_lookup::place_part` meets its contract: the indexes in front of the local list are the page's
-- from byte `from` on.
use mathlib.Core.Path.{ap, ◌∙◌}
use mathlib.Core.List.{List}
use Prim.Native.Nat.{ℕ, ◌-◌}
use native.Mathlib.Omega.{arith}
use lib.ListN.{length, get_or}
use Rattle.rules.specs.Bits.{put, tabulate}
use Rattle.rules.specs.Dictionary.{value}
use Rattle.words.specs.Puts.{part_put}
use Rattle.runs_walk.specs.Placed.{part_entries}
use Rattle.dictionary_scan.specs.Values.{listed}
use Rattle.unpack.proofs.dictionary_lookup.place_part.Goals as goal

pub returns : goal.returns
returns c =
    let u = c in
    let a = u.args in
    part_put a.entries.now _ _ a.p c.look_up.ensures
    ∙ ap (λ (l : List ℕ). put a.entries.now a.p (tabulate a.m (λ k. value a.dict.now (get_or l k 0))))
    u.unpack.ensures
    ∙ ap (put a.entries.now a.p)
    (listed (value a.dict.now) _ a.m _
    ∙ part_entries (value a.dict.now) a.page.now a.from (length a.page.now - a.from) a.w a.m
    (omega arith))
