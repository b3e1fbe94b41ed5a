-- `packed_kernels::singly::Whole::entry` meets its contract: four bytes are the entry.
use Rattle.std.proofs.Common.{arith}
use Rattle.packed_kernels.specs.Windows.{whole-entry}
use Rattle.packed_kernels.proofs.singly.WholeSingle.entry.Goals as goal

pub returns : goal.returns
returns c =
    let a = c.args in
    rw c.requires.0
    (whole-entry a.page.now a.at a.k c.load4.result (λ k. (c.type_inv.page k).fits) (omega arith) c.load4.ensures)
