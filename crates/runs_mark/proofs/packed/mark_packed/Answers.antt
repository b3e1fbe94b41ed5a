-- `runs_mark::packed::mark_packed` meets its contract: from a byte's first bit on the comparison writes in place,
-- else the bits are put.
use Prim.Native.Nat.{◌/◌}
use native.Mathlib.Omega.{arith}
use Rattle.compare.specs.Range.{ranged}
use Rattle.runs_mark.specs.BodyParts.{selected-whole}
use Rattle.runs_mark.proofs.packed.mark_packed.Goals as goal

pub returns-then-p-eq0 : goal.returns-then-p-eq0
returns-then-p-eq0 c =
    let a = c.args in
    selected-whole a.bitmap.now _ a.body.now (a.p / 8) a.p a.w a.m (ranged a.range)
    (omega arith) c.select.ensures
