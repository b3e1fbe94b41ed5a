-- `delta_write::deltas::delta_at` meets its contract: the wrapped difference of the remainders, as a signed number.
use Rattle.std.proofs.Common.{◌≡◌, ◌+◌, ◌%◌, ◌^◌, get_or, pos, sym, ap, ◌∙◌, w32, rules}
use Rattle.rules.specs.Signed.{modulo, signed}
use Rattle.signed.proofs.Signs.{kept}
use Rattle.delta_write.specs.Differences.{difference_kept}
use Rattle.delta_write.specs.Deltas.{get_or-deltas}
use Rattle.delta_write.proofs.deltas.delta_at.Goals as goal

pub returns : goal.returns
returns c =
    let s = c in
    let a = s.args in
    let xs = a.entries.now in
    let x = get_or xs a.i (pos 0) in
    let y = get_or xs (a.i + 1) (pos 0) in
    let d = c.wrapping_sub_u32.result in
    let from : s.kept-from.result ≡ modulo 32 x =
    s.kept-from.ensures ∙ ap (modulo 32) (kept w32 x (search rules)) in
    let to =
    c.kept-to.ensures
    ∙ ap (modulo 32) (kept w32 y (search rules)) in
    let wraps : (d + modulo 32 x) % 2 ^ 32 ≡ modulo 32 y = rw (from, to) at c.wrapping_sub_u32.ensures.value in
    kept w32 c.signed32.result (record { sfits = c.signed32.type_inv }) ∙ c.signed32.ensures
    ∙ ap (signed 32) (difference_kept 32 d y x c.wrapping_sub_u32.type_inv wraps)
    ∙ sym (get_or-deltas 32 xs a.i s.requires.0)
