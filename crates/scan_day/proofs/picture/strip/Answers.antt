-- `scan_day::picture::strip` meets its contract: each turn lays out one cell more.
use mathlib.Core.Path.{◌≡◌, ◌∙◌, ap}
use mathlib.Core.List.{[]}
use Prim.Native.Nat.{ℕ}
use native.Mathlib.Omega.{arith}
use Rattle.rules.specs.Bits.{tabulate}
use Rattle.lines.specs.Text.{held, laid}
use Rattle.scan_day.specs.Picture.{cell_at, strip_of, one-more_cell}
use Rattle.scan_day.proofs.picture.strip.Goals as goal

pub loop-c-init : goal.loop-c-init
unfolding laid tabulate
loop-c-init c = c.new-line.ensures

pub loop-c-preserved : goal.loop-c-preserved
loop-c-preserved c =
    let a = c.args in
    let f = cell_at a.day a.from a.end a.answered.now a.selected.now in
    let cell : c.drawn_cell.result ≡ f c.loop-c.c = rw c.seconds_of-seconds.ensures at c.drawn_cell.ensures in
    one-more_cell f c.loop-c.c (held c.loop-c.line) (held c.words-line.result) c.loop-c.invariant
    (rw cell at c.words-line.ensures)

pub returns : goal.returns
unfolding strip_of
returns c =
    let a = c.args in
    let f = cell_at a.day a.from a.end a.answered.now a.selected.now in
    let all : c.loop-c.c ≡ 72 = omega arith in
    c.loop-c.invariant
    ∙ ap (λ (n : ℕ). laid [] (tabulate n f)) all
