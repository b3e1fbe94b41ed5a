-- `compare::ranges::passes` meets its contract: a difference that wraps is at most span just inside the range.
use Rattle.std.proofs.Common.{◌≡◌, ◌+◌, ◌-◌, ◌%◌, Bool, true, false, not, refl, arith}
use mathlib.Core.Bool.{beq}
use Rattle.compare.specs.Band.{turned}
use Rattle.compare.specs.Range.{ranged}
use Rattle.compare.specs.Inside.{by_difference}
use Rattle.compare.proofs.ranges.passes.Goals as goal

differs : (s t : Bool) → not (beq s t) ≡ turned t s
differs true true = refl
differs true false = refl
differs false true = refl
differs false false = refl

pub returns : goal.returns
unfolding ranged
returns c =
    let r = c.args.range in
    let x = c.args.x in
    rw (
      by_difference r.low r.span x ((x + (4294967296 - r.low)) % 4294967296) (omega arith) (omega arith) (omega arith)
          (omega arith),
      differs _ _,
    )
