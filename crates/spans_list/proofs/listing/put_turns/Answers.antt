-- `spans_list::listing::put_turns` meets its contract.
use mathlib.Core.Path.{ap, ◌∙◌}
use Prim.Native.Nat.{ℕ, ◌+◌, ◌%◌}
use native.Mathlib.Omega.{arith}
use lib.Count.{ones}
use lib.Dec.{eqb}
use Rattle.rules.specs.Bits.{put}
use Rattle.spans_list.specs.SetBits.{edges_of}
use Rattle.spans_list.proofs.listing.put_turns.Goals as goal

pub put_edges-requires : goal.put_edges-requires
put_edges-requires c = (c.requires.0, c.requires.1, omega (arith, c.requires.2, ap ones c.turns.ensures))

pub returns : goal.returns
returns c =
    let a = c.args in
    let e = c.put_edges.ensures in
    record {
      place = e.place ∙ ap (λ (r : ℕ). a.at + ones r) c.turns.ensures;
      wrote =
          e.wrote ∙ ap (λ (r : ℕ). put a.places.now a.at (edges_of (eqb (a.at % 2) 1) 64 a.p r)) c.turns.ensures;
    }
