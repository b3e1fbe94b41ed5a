-- `packed_kernels::singly::Singly::eight` meets its contract: eight digits, each with its weight.
use Rattle.std.proofs.Common.{◌+◌, ◌*◌, arith}
use Rattle.rules.specs.Bits.{field}
use Rattle.rules.specs.Bits.Order.{low_first}
use Rattle.compare.specs.Range.{inside}
use Rattle.packed_kernels.specs.GroupByGroup.{eight_flags}
use Rattle.packed_kernels.proofs.singly.SinglyKernel.eight.Goals as goal

pub returns : goal.returns
returns g c =
    let a = c.args in
    omega (
      arith,
      eight_flags
          (λ j. inside a.low (a.low + a.span) (field low_first a.page.now (8 * a.at + j * a.w) a.w)),
    )
