-- `signed::zigzag::zig` meets its contract: twice a magnitude and one more, by the sign.
use Rattle.std.proofs.Common.{ℕ, ◌+◌, ◌*◌, sym, ap, ◌∙◌, w64}
use Rattle.rules.specs.Signed.{zigzag_of}
use Rattle.signed.proofs.Signs.{kept, below-zero, from_zero}
use Rattle.signed.proofs.zigzag.zig.Goals as goal

pub returns-then-z-lt0 : goal.returns-then-z-lt0
unfolding zigzag_of
returns-then-z-lt0 c =
    let z = c.args.z in
    let same = kept w64 z c.ranges.z in
    ap (λ (k : ℕ). 2 * k + 1) (rw same at c.magnitude_of-twice.ensures)
    ∙ sym (ap zigzag_of (below-zero z (rw same at c.if-z-lt0.true)))

pub returns-else-z-lt0 : goal.returns-else-z-lt0
unfolding zigzag_of
returns-else-z-lt0 c =
    let z = c.args.z in
    let same = kept w64 z c.ranges.z in
    ap (λ (k : ℕ). 2 * k) (rw same at c.magnitude_of-twice.ensures)
    ∙ sym (ap zigzag_of (from_zero z (rw same at c.if-z-lt0.false)))
