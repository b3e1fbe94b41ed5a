-- `scan_page::layouts::words_of` meets its contract: each turn puts one word more.
use mathlib.Core.Path.{◌≡◌}
use Prim.Native.Nat.{◌≤◌, ◌-◌, ◌*◌}
use lib.ListN.{length}
use Rattle.rules.specs.Bits.{put, tabulate}
use Rattle.scan_page.specs.Layouts.{word_at}
use Rattle.scan_page.proofs.layouts.words_of.Given as goal

abbrev pub invariant-loop-k : goal.invariant-loop-k
invariant-loop-k l =
    (8 * l.all ≤ length l.page) × (l.all ≤ length l.initial.words) × (length l.words ≡ length l.initial.words)
    × (l.words ≡ put l.initial.words 0 (tabulate l.k (word_at l.page)))
