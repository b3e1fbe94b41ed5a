-- `runs_write::writing::put_packed` meets its contract: the header, and the groups behind it.
use Prim.Native.Nat.{◌+◌, ◌*◌}
use native.Mathlib.Omega.{arith}
use lib.ListN.{drop}
use Rattle.rules.specs.Bits.Order.{low_first}
use Rattle.rules.specs.Horizontal.{packed}
use Rattle.rules.specs.RunWriter.{filled, run_bytes}
use Rattle.rules.specs.Shortest.{shortest}
use Rattle.words.specs.Puts.{put-behind}
use Rattle.runs_write.specs.Sizes.{length-groups}
use Rattle.runs_write.proofs.writing.put_packed.Goals as goal

pub returns : goal.returns
unfolding run_bytes
returns c =
    let a = c.args in
    let header = c.put_number-from.ensures in
    let s = drop a.p a.entries.now in
    record {
      stored =
          put-behind a.page.now a.at (shortest (2 * a.groups + 1)) (packed low_first a.w (filled a.groups s))
          header.stored header.next c.put_groups.ensures (omega (arith, length-groups a.w a.groups s));
      next = omega (arith, header.next);
    }
