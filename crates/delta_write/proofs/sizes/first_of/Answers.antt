-- `delta_write::sizes::first_of` meets its contract: without a first entry there is none, and 0's number is 0.
use Rattle.std.proofs.Common.{rules, ◌≡◌, length, pos, sym, ap, arith}
use lib.ListN.{get_or-eq_default}
use Rattle.rules.specs.Signed.{zigzag_of}
use Rattle.delta_write.proofs.sizes.first_of.Goals as goal

pub returns-in-None : goal.returns-in-None
unfolding zigzag_of
returns-in-None c =
    let none : length c.args.entries.now ≡ 0 = search rules in
    sym (ap zigzag_of (get_or-eq_default c.args.entries.now (pos 0) (omega arith)))
