-- `packed_kernels::kernels::select` meets its contract. The loop's invariant: the bytes of the groups passed are in
-- place.
use Rattle.std.proofs.Common.{◌≡◌, ◌*◌}
use Rattle.rules.specs.Bits.{put}
use Rattle.packed_kernels.specs.Selected.{selected, ranging}
use Rattle.packed_kernels.proofs.kernels.select.Given as goal

abbrev pub invariant-loop-g : goal.invariant-loop-g
invariant-loop-g g l =
    l.bitmap ≡ put l.initial.bitmap 0 (selected l.page (8 * l.g) l.w (ranging l.low l.span l.flip))
