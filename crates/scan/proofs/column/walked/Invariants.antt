-- `scan::column::walked` is safe: the bitmap keeps its length.
use mathlib.Core.Path.{◌≡◌}
use lib.ListN.{length}
use Rattle.scan.proofs.column.walked.Given as goal

abbrev pub invariant-loop-k : goal.invariant-loop-k
invariant-loop-k g l = length l.bitmap ≡ length l.initial.bitmap
