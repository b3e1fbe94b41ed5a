-- `packed_kernels::fours::Fours::eight` meets its contract: four entries in a window, and four in the next.
use Rattle.std.proofs.Common.{ℕ, ◌+◌, ◌*◌, ◌/◌, ◌%◌, ◌^◌, sym, ap, ◌∙◌, ap₂, div-one, arith}
use Rattle.words.specs.Joined.{Small}
use Rattle.packed_kernels.specs.Windows.{window_tests, two_fours}
use Rattle.packed_kernels.proofs.fours.FoursKernel.eight.Goals as goal

pub returns : goal.returns
returns c =
    let a = c.args in
    let page = a.page.now in
    let o = 4 * a.w % 8 in
    let all : Small 8 page = λ k. (c.type_inv.page k).fits in
    ap₂ (λ (p q : ℕ). p + q * 16)
    (c.four_in.ensures.told
    ∙ window_tests page 4 a.at 0 a.w a.low (a.low + a.span) c.load8-x.result
    all (omega arith) (c.load8-x.ensures ∙ sym (div-one _)) (omega arith))
    (c.four_in-2.ensures.told
    ∙ window_tests page 4 (a.at + a.w / 2) o a.w a.low (a.low + a.span)
    (c.load8.result / 2 ^ o) all (omega arith)
    (ap (λ (x : ℕ). x / 2 ^ o) c.load8.ensures) (omega arith))
    ∙ two_fours page (8 * a.at) a.w a.low (a.low + a.span)
