-- `pack::vertical::pack_one` meets its contract: the group's entries and its planes are lent on.
use mathlib.Core.Path.{◌≡◌, ap, ◌∙◌}
use Prim.Native.Nat.{◌+◌, ◌-◌, ◌*◌}
use native.Mathlib.Omega.{arith}
use lib.ListN.{take, drop}
use Rattle.rules.specs.Bits.{put, tabulate}
use Rattle.rules.specs.Vertical.{plane}
use Rattle.words.specs.Puts.{part_put}
use Rattle.words.specs.Tabulated.{tabulate-ext}
use Rattle.vertical_turn.specs.Planes.{plane_part}
use Rattle.pack.proofs.vertical.pack_one.Goals as goal

pub returns : goal.returns
returns c =
    let u = c in
    let s = u in
    let a = s.args in
    let m = u.entries_in_group.result in
    let xs = a.entries.now in
    let size : 64 * a.g + m - 64 * a.g ≡ m = omega arith in
    let same : tabulate a.w (plane a.w (take (64 * a.g + m - 64 * a.g) (drop (64 * a.g) xs)) 0)
    ≡ tabulate a.w (plane a.w xs a.g) =
    rw size
    (tabulate-ext a.w _ _
    (λ k l. plane_part a.w xs a.g m k
    (omega (arith, u.entries_in_group.ensures)))) in
    part_put a.words.now u.pack_group.new.planes _ (a.g * a.w)
    (u.pack_group.ensures ∙ ap (put _ 0) same)
