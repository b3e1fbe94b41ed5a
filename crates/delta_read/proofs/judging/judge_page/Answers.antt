-- `delta_read::judging::judge_page` meets its contract: the header's fault, or else that of the blocks.
use mathlib.Core.Path.{sym, ap, ◌∙◌}
use native.Mathlib.Omega.{arith}
use Rattle.rules.specs.Delta.{blocks_at}
use Rattle.answers.specs.Laws.{passed_up}
use Rattle.delta_read.specs.Heads.{head-shaped}
use Rattle.delta_read.specs.DeltasFault.{deltas_fault, fault-unopened, fault-opened}
use Rattle.delta_read.proofs.judging.judge_page.Goals as goal

pub judge_blocks-requires : goal.judge_blocks-requires
judge_blocks-requires c =
    (omega (arith, c.saturating_sub.ensures), head-shaped 32 _ _ (sym c.in_ok-head.ensures))

pub returns-in_err-head : goal.returns-in_err-head
returns-in_err-head c =
    rw (passed_up _ _ c.from_residual.ensures) (sym (fault-unopened 32 _ _ (sym c.in_err-head.ensures)))

pub returns : goal.returns
returns c =
    let a = c.args in
    let h = c.in_ok-head.head in
    c.judge_blocks.ensures
    ∙ ap (λ d. deltas_fault (blocks_at 32 h.size h.minis d d a.page.now h.next)) c.saturating_sub.ensures
    ∙ sym (fault-opened 32 a.n a.page.now (sym c.in_ok-head.ensures))
