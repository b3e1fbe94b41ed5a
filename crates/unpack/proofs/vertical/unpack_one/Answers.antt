-- `unpack::vertical::unpack_one` meets its contract: the group's planes and its places are lent on.
use mathlib.Core.Path.{◌≡◌, ap, ◌∙◌}
use mathlib.Core.List.{List}
use Prim.Native.Nat.{ℕ, ◌+◌, ◌-◌, ◌*◌, min}
use native.Mathlib.Omega.{arith}
use lib.ListN.{length, take, drop, length-drop}
use lib.Seq.{length-take-le}
use Rattle.rules.specs.Bits.{put, tabulate}
use Rattle.rules.specs.Vertical.{lane}
use Rattle.words.specs.Puts.{part_put}
use Rattle.words.specs.Tabulated.{tabulate-ext}
use Rattle.vertical_compare.specs.Lanes.{lane_part}
use Rattle.unpack.proofs.vertical.unpack_one.Goals as goal

pub returns : goal.returns
returns c =
    let u = c in
    let s = u in
    let a = s.args in
    let at = a.g * a.w in
    let part : List ℕ = take (at + a.w - at) (drop at a.words.now) in
    let size : at + a.w - at ≡ a.w = omega arith in
    let whole : length (take a.w (drop at a.words.now)) ≡ a.w =
    length-take-le a.w (drop at a.words.now) (rw length-drop (omega arith)) in
    let same : tabulate u.entries_in_group.result (lane part 0 (length part))
    ≡ tabulate (min 64 (a.n - 64 * a.g)) (lane a.words.now at a.w) =
    rw (u.entries_in_group.ensures, size, whole)
    (tabulate-ext _ _ _ (λ j l. lane_part a.words.now at a.w j)) in
    part_put a.entries.now u.unpack_group.new.entries _ (64 * a.g)
    (u.unpack_group.ensures ∙ ap (put _ 0) same)
