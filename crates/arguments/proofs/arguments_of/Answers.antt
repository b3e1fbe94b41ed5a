-- `arguments::arguments_of` meets its contract: the limits of an unsigned column are judged first.
use mir.Syntax.{w64}
use mir.ValLaws.{to_z-of_z}
use Rattle.arguments.proofs.arguments_of.Goals as goal

-- the constants come through the call as they are
pub returns : goal.returns
returns c =
    rw (
      to_z-of_z w64 c.args.a c.ranges.a,
      to_z-of_z w64 c.args.b c.ranges.b,
      c.judge_unsigned.ensures,
    ) at c.arguments_after.ensures
