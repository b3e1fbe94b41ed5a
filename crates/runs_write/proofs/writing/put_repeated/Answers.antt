-- `runs_write::writing::put_repeated` meets its contract: the header, and the value's bytes behind it.
use Prim.Native.Nat.{◌*◌}
use native.Mathlib.Nat.{add-zero}
use native.Mathlib.Omega.{arith}
use lib.ListN.{get_or}
use lib.Seq.{get_or-drop}
use Rattle.rules.specs.Bits.{ceil, bytes}
use Rattle.rules.specs.RunWriter.{run_bytes}
use Rattle.rules.specs.Shortest.{shortest}
use Rattle.words.specs.Bytes.{length-bytes}
use Rattle.words.specs.Puts.{put-behind}
use Rattle.runs_write.proofs.writing.put_repeated.Goals as goal

pub overflow_cast-entries : goal.overflow_cast-entries
overflow_cast-entries c = omega (arith, c.type_inv.entries c.args.p)

pub returns : goal.returns
unfolding run_bytes
returns c =
    let a = c.args in
    let header = c.put_number-from.ensures in
    let value = bytes (ceil a.w 8) (get_or a.entries.now a.p 0) in
    record {
      stored =
          rw (get_or-drop, add-zero)
          (put-behind a.page.now a.at (shortest (2 * a.count)) value header.stored header.next c.store_low.ensures
          (omega (arith, length-bytes (ceil a.w 8) (get_or a.entries.now a.p 0))));
      next = omega (arith, header.next);
    }
