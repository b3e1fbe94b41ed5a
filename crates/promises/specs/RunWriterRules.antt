-- How the writer of run streams writes a list, run by run, in document 01's sentences; s is what is not yet written.
use Rattle.std.specs.Prelude.{◌≡◌, List, ◌++◌, ◌⊎◌, ℕ, ◌*◌, ◌≤◌, ◌<◌, length, drop}
use Rattle.rules.specs.Grammar.{Spells}
use Rattle.rules.specs.RunWriter.{stretch, groups_of, next_run, taken, run_bytes, stream}
use Rattle.rules.specs.Shortest.{shortest}
use Rattle.rules.specs.declared.Next.TheVariants.{Repeats, Packs}
use Rattle.varints.specs.Shortness as Shortness
use Rattle.runs_write.specs.Cuts as Cuts

-- the stream is the bytes of the run at hand, and then the stream of what it leaves
pub in_turn_lem : (w : ℕ) (s : List ℕ) → 0 < length s
    → stream w s ≡ run_bytes w s (next_run s) ++ stream w (drop (taken (next_run s)) s)
in_turn_lem = Cuts.stream-turn

-- if the longest stretch of equal entries is 8 or more, it is one repeated run
pub repeated : (s : List ℕ) → 8 ≤ stretch s → next_run s ≡ Repeats (stretch s)
repeated = Cuts.next-repeats

-- otherwise a packed run opens, of at most 63 groups
pub packed : (s : List ℕ) → stretch s < 8 → next_run s ≡ Packs (groups_of 63 s)
packed = Cuts.next-packs

pub at_most_63 : (s : List ℕ) → groups_of 63 s ≤ 63
at_most_63 = Cuts.groups_le 63

-- which closes at a repeated run, at the end, or at 63
pub closes : (s : List ℕ)
    → let g = groups_of 63 s in (8 ≤ stretch (drop (8 * g) s)) ⊎ (length s ≤ 8 * g) ⊎ (g ≡ 63)
closes = Cuts.groups_close 63

-- no spelling of a header is shorter
pub headers_shortest : {t : List ℕ} {h : ℕ} → Spells t h → length (shortest h) ≤ length t
headers_shortest = Shortness.shortest-least
