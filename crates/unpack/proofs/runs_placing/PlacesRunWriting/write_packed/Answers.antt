-- `Places::write_packed` meets its contract: the part's entries are the page's from byte `start` on.
use mathlib.Core.Path.{ap, ◌∙◌}
use Prim.Native.Nat.{◌-◌}
use native.Mathlib.Omega.{arith}
use lib.ListN.{length}
use Rattle.rules.specs.Bits.{put}
use Rattle.words.specs.Puts.{part_put}
use Rattle.runs_walk.specs.Placed.{part_entries}
use Rattle.unpack.proofs.runs_placing.PlacesRunWriting.write_packed.Goals as goal

pub returns : goal.returns
returns c =
    let a = c.args in
    part_put a.entries.now _ _ a.i c.unpack.ensures
    ∙ ap (put a.entries.now a.i)
    (part_entries (λ x. x) a.page.now a.start (length a.page.now - a.start) a.w a.m (omega arith))
