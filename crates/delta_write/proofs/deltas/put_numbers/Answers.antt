-- `delta_write::deltas::put_numbers` meets its contract.
use Rattle.std.proofs.Common.{ap, ◌∙◌, w32}
use Rattle.rules.specs.Signed.{zigzag_of}
use Rattle.signed.proofs.Signs.{kept}
use Rattle.delta_write.proofs.deltas.put_numbers.Goals as goal

pub returns : goal.returns
returns c =
    let p = c in
    let l = p.least_of-smallest in
    record {
      stored = p.put_above.ensures;
      smallest = c.zigzag.ensures
          ∙ ap zigzag_of (kept w32 l.result (record { sfits = l.type_inv }) ∙ l.ensures);
    }
