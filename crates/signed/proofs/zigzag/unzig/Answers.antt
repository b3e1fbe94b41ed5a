-- `signed::zigzag::unzig` meets its contract: half of 64 bits fits, and so does -half - 1.
use Rattle.std.proofs.Common.{◌/◌, ◌%◌, ◌∙◌, arith, w64, eq-eqb, ne_eqb}
use mir.ValLaws.{to_z_pos}
use Rattle.rules.specs.Signed.{zigzag}
use Rattle.signed.proofs.Signs.{less_is}
use Rattle.signed.proofs.zigzag.unzig.Goals as goal

pub returns-then-u-eq0 : goal.returns-then-u-eq0
unfolding zigzag
returns-then-u-eq0 c = rw (to_z_pos w64 (c.args.u / 2) (omega arith), eq-eqb (c.args.u % 2) 0 (omega arith))

pub returns-else-u-eq0 : goal.returns-else-u-eq0
unfolding zigzag
returns-else-u-eq0 c =
    less_is w64 (c.args.u / 2) (omega arith) ∙ rw (ne_eqb (c.args.u % 2) 0 (λ e. c.if-u-eq0.false (omega arith)))
