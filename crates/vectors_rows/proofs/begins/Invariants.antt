-- `vectors_rows::begins` meets its contract: the lists are the same as far as they were compared.
use Rattle.std.specs.Prelude.{◌≡◌, take}
use Rattle.vectors_rows.proofs.begins.Given as goal

abbrev pub invariant-loop-i : goal.invariant-loop-i
invariant-loop-i g l = take l.i l.list ≡ take l.i l.front
