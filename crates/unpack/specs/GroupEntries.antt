-- The entries of a column of bit planes, one group more, by the entries that n reaches.
use Rattle.std.specs.Prelude.{◌≡◌, List, ℕ, ◌+◌, ◌-◌, ◌*◌, ◌≤◌, ◌<◌, min, length}
use Rattle.std.proofs.Common.{ap, ◌∙◌, arith}
use Rattle.rules.specs.Bits.{put, tabulate}
use Rattle.rules.specs.Vertical.{lane, entry}
use Rattle.vertical_turn.specs.ColumnThereAndBack.{next_group_entries}

-- the entries of the groups up to g are in their places, and those of group g are put behind them
pub next-entries : (l words : List ℕ) (w n g : ℕ) → 64 * g < n → n ≤ length l
    → put (put l 0 (tabulate (min (64 * g) n) (entry words w))) (64 * g)
    (tabulate (min 64 (n - 64 * g)) (lane words (g * w) w))
    ≡ put l 0 (tabulate (min (64 * (g + 1)) n) (entry words w))
next-entries l words w n g h room =
    let m = min 64 (n - 64 * g) in
    let before : min (64 * g) n ≡ 64 * g = omega arith in
    let after : 64 * g + m ≡ min (64 * (g + 1)) n = omega arith in
    ap (λ (k : ℕ). put (put l 0 (tabulate k (entry words w))) (64 * g) (tabulate m (lane words (g * w) w))) before
    ∙ next_group_entries l words w g m (omega arith) (omega arith)
    ∙ ap (λ (k : ℕ). put l 0 (tabulate k (entry words w))) after
