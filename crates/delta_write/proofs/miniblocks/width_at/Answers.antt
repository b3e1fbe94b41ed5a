-- `delta_write::miniblocks::width_at` meets its contract: the part of the numbers is miniblock j.
use Rattle.std.proofs.Common.{◌≡◌, ℕ, ◌+◌, ◌-◌, ◌*◌, take, drop, ap, ◌∙◌, arith}
use Rattle.rules.specs.DeltaWriter.{width_for}
use Rattle.delta_write.proofs.miniblocks.width_at.Goals as goal

pub returns : goal.returns
returns c =
    let a = c.args in
    let size : 32 * a.j + 32 - 32 * a.j ≡ 32 = omega arith in
    c.width_of.ensures ∙ ap (λ (n : ℕ). width_for 32 (take n (drop (32 * a.j) a.numbers.now))) size
