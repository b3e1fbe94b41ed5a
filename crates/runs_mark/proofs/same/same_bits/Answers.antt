-- `runs_mark::same::same_bits` meets its contract: m bits that are all set are 2 ^ m - 1.
use mathlib.Core.Path.{sym}
use native.Mathlib.Omega.{arith}
use lib.Pow.{pow_pos}
use Rattle.words.specs.Bits.{one_shl, word_all, word_none}
use Rattle.runs_mark.proofs.same.same_bits.Goals as goal

pub overflow_sub-result : goal.overflow_sub-result
overflow_sub-result c = rw (one_shl 64 c.args.m (omega arith)) (pow_pos c.args.m)

pub returns-then-selected : goal.returns-then-selected
returns-then-selected c =
    let m = c.args.m in
    rw (one_shl 64 m (omega arith), c.if-selected.true) (sym (word_all m))

pub returns-else-selected : goal.returns-else-selected
returns-else-selected c = rw c.if-selected.false (sym (word_none c.args.m))
