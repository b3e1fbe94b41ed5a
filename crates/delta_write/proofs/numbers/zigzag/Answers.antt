-- `delta_write::numbers::zigzag` meets its contract: the zigzag number of a signed number of 32 bits has 32 bits.
use Rattle.std.proofs.Common.{◌≡◌, ap, ◌∙◌, arith}
use Rattle.rules.specs.Signed.{zigzag_of}
use Rattle.signed.specs.Zigzags.{zigzag_of_lt}
use Rattle.delta_write.proofs.Wide.{wide_fits, wide_is}
use Rattle.delta_write.proofs.numbers.zigzag.Goals as goal
use Rattle.delta_write.proofs.numbers.zigzag.Goals.{After-zig}

pub overflow_cast-z : goal.overflow_cast-z
overflow_cast-z c = wide_fits c.args.z c.ranges.z

gives : (c : After-zig) → c.zig.result ≡ zigzag_of c.args.z
gives c = c.zig.ensures ∙ ap zigzag_of (wide_is c.args.z c.ranges.z)

pub overflow_cast-result : goal.overflow_cast-result
overflow_cast-result c = omega (arith, gives c, zigzag_of_lt 32 c.args.z c.ranges.z.sfits)

pub returns : goal.returns
returns c = gives c
