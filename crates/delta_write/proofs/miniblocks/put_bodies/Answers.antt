-- `delta_write::miniblocks::put_bodies` meets its contract: each turn lays one body behind those that are laid.
use Rattle.std.proofs.Common.{◌≡◌, ℕ, ◌+◌, length, ap, ◌∙◌, arith}
use Rattle.rules.specs.Bits.{put}
use Rattle.rules.specs.DeltaWriter.{bodies}
use Rattle.words.specs.Puts.{put-none}
use Rattle.delta_write.specs.Miniblocks.{turn, bodies-put}
use Rattle.delta_write.proofs.miniblocks.put_bodies.Goals as goal

pub loop-j-init : goal.loop-j-init
loop-j-init c = (omega arith, put-none c.args.page.now c.args.at)

pub pack_part-requires : goal.pack_part-requires
pack_part-requires c =
    let t = turn 32 c.args.numbers.now c.loop-j.j c.width_at-w.ensures (omega arith)
    (λ i. (c.type_inv.numbers i).fits) in
    (omega arith, omega arith, omega arith, t.fits, omega arith)

pub overflow_add-next : goal.overflow_add-next
overflow_add-next c =
    let t = turn 32 c.args.numbers.now c.loop-j.j c.width_at-w.ensures (omega arith)
    (λ i. (c.type_inv.numbers i).fits) in
    omega arith

pub loop-j-preserved : goal.loop-j-preserved
loop-j-preserved c =
    let t = turn 32 c.args.numbers.now c.loop-j.j c.width_at-w.ensures (omega arith)
    (λ i. (c.type_inv.numbers i).fits) in
    let l = c.loop-j in
    let a = c.args in
    let laid =
    bodies-put 32 a.numbers.now a.page.now l.j a.at c.width_at-w.ensures t
    (omega arith) (omega arith) (omega arith) l.invariant.1 l.invariant.0 c.pack_part.ensures in
    (omega arith, laid)

pub returns : goal.returns
returns c =
    let l = c.loop-j in
    let a = c.args in
    let all : l.j ≡ 4 = omega arith in
    record {
      stored = l.invariant.1 ∙ ap (λ (j : ℕ). put a.page.now a.at (bodies j 32 a.numbers.now)) all;
      next = l.invariant.0 ∙ ap (λ (j : ℕ). a.at + length (bodies j 32 a.numbers.now)) all;
    }
