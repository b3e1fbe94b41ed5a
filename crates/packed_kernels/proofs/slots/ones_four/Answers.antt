-- `packed_kernels::slots::ones_four` meets its contract: two fields, and two more of twice the size.
use Rattle.std.proofs.Common.{◌≡◌, ℕ, ◌*◌, ◌∙◌, ap₂, arith}
use Rattle.packed_kernels.specs.Slots.{slots}
use Rattle.packed_kernels.specs.Slots.{ones_four, ones-fit}
use Rattle.packed_kernels.proofs.slots.ones_four.Goals as goal

pub overflow_mul-result : goal.overflow_mul-result
overflow_mul-result c =
    let d = c.args.d in
    let e : c.ones_two.result * c.ones_two-2.result ≡ slots 4 d (λ i. 1) =
    ap₂ (λ (x y : ℕ). x * y) c.ones_two.ensures c.ones_two-2.ensures ∙ ones_four d in
    record { fits = rw e (ones-fit d (omega arith)) }

pub returns : goal.returns
returns c =
    let d = c.args.d in
    ap₂ (λ (x y : ℕ). x * y) c.ones_two.ensures c.ones_two-2.ensures ∙ ones_four d
