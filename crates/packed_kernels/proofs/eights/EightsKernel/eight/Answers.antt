-- `packed_kernels::eights::Eights::eight` meets its contract: eight entries of at most eight bits lie in a window of eight
-- bytes.
use Rattle.std.proofs.Common.{◌+◌, sym, ◌∙◌, div-one, arith}
use Rattle.packed_kernels.specs.Windows.{window_tests}
use Rattle.packed_kernels.proofs.eights.EightsKernel.eight.Goals as goal

pub returns : goal.returns
returns c =
    let a = c.args in
    c.eight_in.ensures
    ∙ window_tests a.page.now 8 a.at 0 a.w a.low (a.low + a.span) c.load8.result
    (λ k. (c.type_inv.page k).fits) (omega arith)
    (c.load8.ensures ∙ sym (div-one _)) (omega arith)
