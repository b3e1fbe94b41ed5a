-- `runs_write::stretches::taken` meets its contract, for either kind of run.
use mathlib.Core.Path.{sym, ap}
use native.Mathlib.Omega.{arith}
use Rattle.rules.specs.RunWriter as RunWriter
use Rattle.runs_write.proofs.stretches.taken.Goals as goal

pub overflow_mul-result : goal.overflow_mul-result
overflow_mul-result c = omega (arith, ap RunWriter.taken c.in-Packs.is)

pub returns-in-Packs : goal.returns-in-Packs
returns-in-Packs c = sym (ap RunWriter.taken c.in-Packs.is)
