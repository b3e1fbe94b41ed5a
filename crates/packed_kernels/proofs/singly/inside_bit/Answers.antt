-- `packed_kernels::singly::inside_bit` meets its contract: a difference that wraps is at most span just inside the
-- range.
use Rattle.std.proofs.Common.{◌≡◌, ◌+◌, leb, ap, ◌∙◌, arith}
use Rattle.rules.specs.Bits.{flag}
use Rattle.words.specs.Bits.{flag_lt, byte_flag}
use Rattle.compare.specs.Range.{inside}
use Rattle.compare.specs.Inside.{by_difference}
use Rattle.packed_kernels.proofs.singly.inside_bit.Goals as goal

pub returns : goal.returns
returns c =
    let a = c.args in
    let d = c.wrapping_sub_u32.result in
    let t : leb d a.span ≡ inside a.low (a.low + a.span) a.x =
    by_difference a.low a.span a.x d (omega arith) (omega arith) (omega arith)
    c.wrapping_sub_u32.ensures.value in
    record {
      told = byte_flag (leb d a.span) ∙ ap flag t;
      small = omega (arith, byte_flag (leb d a.span), flag_lt (leb d a.span));
    }
