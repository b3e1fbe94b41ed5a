-- `vertical_planes::selecting::four_groups` meets its contract: the planes of each group are lent on.
use mathlib.Core.Path.{ap, ◌∙◌}
use Prim.Native.Nat.{◌+◌, ◌*◌}
use native.Mathlib.Omega.{arith}
use Rattle.rules.specs.declared.Compared.{Compared}
use Rattle.vertical_planes.specs.declared.four.Four.{Four}
use Rattle.vertical_planes.specs.Chosen.{part_length, part_bits}
use Rattle.vertical_planes.proofs.selecting.four_groups.Goals as goal

pub compare_four-requires : goal.compare_four-requires
compare_four-requires c =
    let w = c.args.ends.now.w in
    let at = c.args.g * w in
    let words = c.args.words.now in
    rw (
      part_length words at (at + w) w (omega arith) (omega arith),
      part_length words (at + w) (at + w + w) w (omega arith) (omega arith),
      part_length words (at + w + w) (at + w + w + w) w (omega arith) (omega arith),
      part_length words (at + w + w + w) (at + w + w + w + w) w (omega arith) (omega arith),
    ) (omega arith)

pub returns : goal.returns
returns c =
    let a = c.args in
    let w = a.ends.now.w in
    let at = a.g * w in (
      ap (λ (r : Four Compared). r.first.bits) c.compare_four.ensures
          ∙ part_bits a.words.now at (at + w) w a.ends.now.band (omega arith) (omega arith),
      ap (λ (r : Four Compared). r.second.bits) c.compare_four.ensures
          ∙ part_bits a.words.now (at + w) (at + w + w) w a.ends.now.band (omega arith) (omega arith),
      ap (λ (r : Four Compared). r.third.bits) c.compare_four.ensures
          ∙ part_bits a.words.now (at + w + w) (at + w + w + w) w a.ends.now.band (omega arith) (omega arith),
      ap (λ (r : Four Compared). r.fourth.bits) c.compare_four.ensures
          ∙ part_bits a.words.now (at + w + w + w) (at + w + w + w + w) w a.ends.now.band (omega arith) (omega arith),
    )
