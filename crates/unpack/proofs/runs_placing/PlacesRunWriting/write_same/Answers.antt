-- `Places::write_same` meets its contract: each place of the part holds the value.
use Rattle.std.proofs.Common.{rules, arith}
use Rattle.unpack.proofs.Filled.{filled}
use Rattle.unpack.proofs.runs_placing.PlacesRunWriting.write_same.Goals as goal

pub returns : goal.returns
returns c =
    let a = c.args in
    filled a.entries.now c.fill.new.places a.i _ _ a.m a.value c.fill.ensures
    (search rules) (omega arith)
