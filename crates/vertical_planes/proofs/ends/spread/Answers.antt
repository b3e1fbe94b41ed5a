-- `vertical_planes::ends::spread` meets its contract.
use native.Mathlib.Omega.{arith}
use Rattle.vertical_planes.specs.Masks.{laid_next}
use Rattle.vertical_planes.proofs.ends.spread.Goals as goal

pub loop-k-init : goal.loop-k-init
loop-k-init c = λ k h. absurd (omega arith)

pub loop-k-preserved : goal.loop-k-preserved
loop-k-preserved c =
    let l = c.loop-k in
    laid_next l.masks _ _ l.k _ (omega arith) c.lay.ensures l.invariant

pub returns : goal.returns
returns c = λ k h. c.loop-k.invariant k (omega arith)
