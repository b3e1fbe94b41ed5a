-- `delta_write::miniblocks::put_widths` meets its contract: each turn stores one width behind those that are stored.
use Rattle.std.proofs.Common.{◌≡◌, ℕ, ◌+◌, List, set, sym, ap, ◌∙◌, ap₂, arith}
use Rattle.rules.specs.Bits.{put}
use Rattle.rules.specs.DeltaWriter.{width_for, widths}
use Rattle.words.specs.Puts.{put-none, put_snoc}
use Rattle.delta_write.specs.LeastWidth.{widths_le}
use Rattle.delta_write.specs.Miniblocks.{mini, length-widths, widths-next}
use Rattle.delta_write.proofs.miniblocks.put_widths.Goals as goal

pub loop-j-init : goal.loop-j-init
loop-j-init c = put-none c.args.page.now c.args.at

pub overflow_cast-page : goal.overflow_cast-page
overflow_cast-page c =
    let ns = c.args.numbers.now in
    omega (arith, widths_le 32 (mini c.loop-j.j ns))

pub loop-j-preserved : goal.loop-j-preserved
loop-j-preserved c =
    let l = c.loop-j in
    let a = c.args in
    let ns = a.numbers.now in
    let page = a.page.now in
    let size = length-widths l.j 32 ns in
    let turn : set (put page a.at (widths l.j 32 ns)) (a.at + l.j) (width_for 32 (mini l.j ns))
    ≡ put page a.at (widths (l.j + 1) 32 ns) =
    put_snoc page (widths l.j 32 ns) a.at (a.at + l.j) (width_for 32 (mini l.j ns)) (omega arith)
    (omega arith) ∙ ap (put page a.at) (sym (widths-next l.j 32 ns)) in
    ap₂ (λ (p : List ℕ) (w : ℕ). set p (a.at + l.j) w) l.invariant c.width_at.ensures ∙ turn

pub returns : goal.returns
returns c =
    let l = c.loop-j in
    let a = c.args in
    let all : l.j ≡ 4 = omega arith in
    l.invariant ∙ ap (λ (j : ℕ). put a.page.now a.at (widths j 32 a.numbers.now)) all
