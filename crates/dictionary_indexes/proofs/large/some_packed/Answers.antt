-- `dictionary_indexes::large::some_packed` meets its contract: by windows where they hold the run, and else by
-- scratch.
use mathlib.Core.Path.{◌≡◌, sym, ap, ◌∙◌}
use Prim.Native.Nat.{ℕ, ◌+◌, ◌-◌, ◌*◌, ◌/◌}
use native.Mathlib.Omega.{arith}
use lib.Dec.{leb}
use lib.ListN.{length}
use Rattle.rules.specs.Bits.{field, some_below}
use Rattle.rules.specs.Bits.Order.{low_first}
use Rattle.dictionary_indexes.specs.IndexWindows.{windows_hold}
use Rattle.dictionary_indexes.proofs.large.some_packed.Goals as goal

pub some_groups-requires : goal.some_groups-requires
some_groups-requires c =
    let held =
    windows_hold c.args.w c.args.m (length c.args.page.now - c.args.start)
    (sym c.in_windows.ensures ∙ c.if-in_windows.true) in
    (held.0, held.1, c.requires.3, omega arith)

pub returns-then-in_windows : goal.returns-then-in_windows
returns-then-in_windows c =
    let held =
    windows_hold c.args.w c.args.m (length c.args.page.now - c.args.start)
    (sym c.in_windows.ensures ∙ c.if-in_windows.true) in
    let a = c.args in
    let all : 8 * (a.m / 8) ≡ a.m = omega arith in
    c.some_groups.ensures
    ∙ ap
    (λ (n : ℕ). some_below n
    (λ k. leb a.limit (field low_first a.page.now (8 * a.start + k * a.w) a.w))) all
