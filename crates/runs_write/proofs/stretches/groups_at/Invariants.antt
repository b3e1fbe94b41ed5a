-- `runs_write::stretches::groups_at` meets its contract: the groups passed, and those that the rest of the 63 take
-- from here on.
use mathlib.Core.Path.{◌≡◌}
use Prim.Native.Nat.{◌+◌, ◌-◌, ◌*◌}
use lib.ListN.{drop}
use Rattle.rules.specs.RunWriter.{groups_of}
use Rattle.runs_write.proofs.stretches.groups_at.Given as goal

abbrev pub invariant-loop-groups : goal.invariant-loop-groups
invariant-loop-groups l =
    groups_of 63 (drop l.p l.entries) ≡ l.groups + groups_of (63 - l.groups) (drop (l.p + 8 * l.groups) l.entries)
