-- `vertical_scan::scanning::group_bits` meets its contract: the group's planes are lent on, and its lanes turned
-- where the band is.
use mathlib.Core.Path.{◌≡◌, ap, ◌∙◌}
use Prim.Native.Nat.{ℕ, ◌+◌, ◌-◌, ◌*◌, ◌≤◌}
use borrow.Author.Rules.{rules}
use native.Mathlib.Omega.{arith}
use lib.IntN.{ℤ, pos}
use mathlib.Core.List.{List}
use lib.ListN.{length, take, drop, length-drop}
use lib.Seq.{length-take-le}
use mir.Syntax.{w64}
use mir.Val.{to_z, of_z}
use Rattle.rules.specs.Bits.{word}
use Rattle.rules.specs.Comparison.{between}
use Rattle.rules.specs.Vertical.{lane}
use Rattle.words.specs.Bits.{word-ext}
use Rattle.vertical_compare.specs.Lanes.{lane_part}
use Rattle.vertical_scan.specs.Chosen.{lanes_inside, lanes_outside}
use Rattle.vertical_scan.proofs.scanning.group_bits.Goals as goal

-- the lanes of the planes lent on are those of the group
lent : (words : List ℕ) (at w : ℕ) (low high : ℤ) → at + w ≤ length words
    → let part = take (at + w - at) (drop at words) in
    word 64 (λ j. between low high (pos (lane part 0 (length part) j)))
    ≡ word 64 (λ j. between low high (pos (lane words at w j)))
lent words at w low high fits =
    let size : at + w - at ≡ w = omega arith in
    let whole : length (take w (drop at words)) ≡ w =
    length-take-le w (drop at words) (rw length-drop (omega arith)) in
    rw (size, whole)
    (word-ext 64 (λ j l. ap (λ (x : ℕ). between low high (pos x)) (lane_part words at w j)))

pub returns-then-band : goal.returns-then-band
returns-then-band c =
    let a = c.args in
    let at = a.g * a.w in
    let low : to_z w64 (of_z w64 a.band.low) ≡ a.band.low = search rules in
    let high : to_z w64 (of_z w64 a.band.high) ≡ a.band.high = search rules in
    lanes_outside _ _ _ _ _ c.if-band.true
    ((rw (low, high) at c.compare_group-inside.ensures)
    ∙ lent a.words.now at a.w a.band.low a.band.high c.requires.1)

pub returns-else-band : goal.returns-else-band
returns-else-band c =
    let a = c.args in
    let at = a.g * a.w in
    let low : to_z w64 (of_z w64 a.band.low) ≡ a.band.low = search rules in
    let high : to_z w64 (of_z w64 a.band.high) ≡ a.band.high = search rules in
    lanes_inside _ _ _ _ _ c.if-band.false
    ((rw (low, high) at c.compare_group-inside.ensures)
    ∙ lent a.words.now at a.w a.band.low a.band.high c.requires.1)
