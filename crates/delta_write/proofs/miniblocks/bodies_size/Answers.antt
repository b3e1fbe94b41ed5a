-- `delta_write::miniblocks::bodies_size` meets its contract: 4 bytes for each bit of a width.
use Rattle.std.proofs.Common.{◌≡◌, ℕ, length, ap, ◌∙◌, arith}
use Rattle.rules.specs.DeltaWriter.{bodies}
use Rattle.delta_write.specs.Miniblocks.{turn}
use Rattle.delta_write.proofs.miniblocks.bodies_size.Goals as goal

pub loop-j-preserved : goal.loop-j-preserved
loop-j-preserved c =
    let t = turn 32 c.args.numbers.now c.loop-j.j c.width_at.ensures (omega arith)
    (λ i. (c.type_inv.numbers i).fits) in
    omega arith

pub returns : goal.returns
returns c =
    let l = c.loop-j in
    let all : l.j ≡ 4 = omega arith in
    l.invariant.1 ∙ ap (λ (j : ℕ). length (bodies j 32 c.args.numbers.now)) all
