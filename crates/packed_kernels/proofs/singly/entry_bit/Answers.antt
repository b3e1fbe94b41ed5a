-- `packed_kernels::singly::entry_bit` meets its contract: the entry is read, and marked.
use Rattle.std.proofs.Common.{ℕ, ◌+◌, ap, ◌∙◌}
use Rattle.rules.specs.Bits.{flag}
use Rattle.compare.specs.Range.{inside}
use Rattle.packed_kernels.proofs.singly.entry_bit.Goals as goal

pub returns-clause-told : goal.returns-clause-told
returns-clause-told g c =
    let a = c.args in
    c.inside_bit.ensures.told ∙ ap (λ (x : ℕ). flag (inside a.low (a.low + a.span) x)) c.entry.ensures
