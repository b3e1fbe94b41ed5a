-- `vertical_planes::selecting::group_bits` meets its contract: the group's planes are lent on.
use mathlib.Core.Path.{ap, ◌∙◌}
use Prim.Native.Nat.{◌+◌, ◌*◌}
use native.Mathlib.Omega.{arith}
use Rattle.rules.specs.declared.Compared.{Compared}
use Rattle.vertical_planes.specs.Chosen.{part_length, part_bits}
use Rattle.vertical_planes.proofs.selecting.group_bits.Goals as goal

pub compare-requires : goal.compare-requires
compare-requires c =
    let a = c.args in
    let at = a.g * a.ends.now.w in
    rw (part_length a.words.now at (at + a.ends.now.w) a.ends.now.w (omega arith) (omega arith))
    (omega arith)

pub returns : goal.returns
returns c =
    let a = c.args in
    let at = a.g * a.ends.now.w in
    ap (λ (r : Compared). r.bits) c.compare.ensures
    ∙ part_bits a.words.now at (at + a.ends.now.w) a.ends.now.w a.ends.now.band (omega arith) (omega arith)
