-- `delta_write::deltas::above` meets its contract: a difference below 2^32 does not wrap.
use Rattle.std.proofs.Common.{◌≡◌, ◌+◌, ◌%◌, ◌^◌, ap, ◌∙◌, w32}
use Rattle.rules.specs.Signed.{modulo}
use Rattle.signed.proofs.Signs.{kept}
use Rattle.delta_write.specs.Differences.{difference_gap}
use Rattle.delta_write.proofs.deltas.above.Goals as goal

pub returns : goal.returns
returns c =
    let s = c in
    let y = s.args.delta in
    let x = s.args.least in
    let r = c.wrapping_sub_u32.result in
    let to = c.kept.ensures ∙ ap (modulo 32) (kept w32 y s.ranges.delta) in
    let from = c.kept-2.ensures ∙ ap (modulo 32) (kept w32 x s.ranges.least) in
    let wraps : (r + modulo 32 x) % 2 ^ 32 ≡ modulo 32 y = rw (from, to) at c.wrapping_sub_u32.ensures.value in
    difference_gap 32 r y x s.ranges.delta.sfits s.ranges.least.sfits s.requires c.wrapping_sub_u32.type_inv wraps
