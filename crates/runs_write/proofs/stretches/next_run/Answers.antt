-- `runs_write::stretches::next_run` meets its contract: 8 equal entries or more are a repeated run.
use mathlib.Core.Path.{sym, ap, ◌∙◌}
use native.Mathlib.Omega.{arith}
use lib.ListN.{drop}
use Rattle.rules.specs.declared.Next.TheVariants.{Repeats, Packs}
use Rattle.runs_write.specs.Cuts.{next-repeats, next-packs}
use Rattle.runs_write.proofs.stretches.next_run.Goals as goal

pub returns-then-count-ge8 : goal.returns-then-count-ge8
returns-then-count-ge8 c =
    let a = c.args in
    ap Repeats c.stretch_at-count.ensures ∙ sym (next-repeats (drop a.p a.entries.now) (omega arith))

pub returns-else-count-ge8 : goal.returns-else-count-ge8
returns-else-count-ge8 c =
    let a = c.args in
    ap Packs c.groups_at.ensures ∙ sym (next-packs (drop a.p a.entries.now) (omega arith))
