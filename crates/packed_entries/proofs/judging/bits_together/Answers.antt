-- `packed_entries::judging::bits_together` meets its contract: the bits of all entries reach a power of 2 where one of
-- them does.
use Rattle.std.proofs.Common.{◌≡◌, rules}
use Rattle.std.specs.List.{fold}
use Rattle.std.specs.Int.Bits.{bit_or}
use Rattle.packed_entries.specs.NoneTooLarge.{large_fold}
use Rattle.packed_entries.proofs.judging.bits_together.Goals as goal

pub returns : goal.returns
returns c w =
    let all : c.fold.result ≡ fold bit_or 0 c.args.entries.now = search rules in
    rw all (large_fold w c.args.entries.now)
