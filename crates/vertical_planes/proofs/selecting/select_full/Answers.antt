-- `vertical_planes::selecting::select_full` meets its contract.
use mathlib.Core.Path.{◌≡◌, refl, ap, ◌∙◌}
use Prim.Native.Nat.{◌+◌, ◌*◌, ◌/◌}
use native.Mathlib.Nat.{mul-le-mul_right}
use native.Mathlib.Omega.{arith}
use Rattle.rules.specs.Bits.{put, bytes}
use Rattle.words.specs.Entries.{place-within}
use Rattle.vertical_planes.specs.Chosen.{next_group}
use Rattle.vertical_planes.proofs.selecting.select_full.Goals as goal

pub select_fours-requires : goal.select_fours-requires
select_fours-requires c =
    let a = c.args in
    omega (arith, mul-le-mul_right {m = 4 * (a.q / 4)} {n = a.q} a.ends.now.w (omega arith))

pub loop-g-init : goal.loop-g-init
loop-g-init c = c.select_fours.ensures

pub group_bits-requires : goal.group_bits-requires
group_bits-requires c =
    let a = c.args in
    omega (arith, place-within a.ends.now.w c.loop-g.g a.q (omega arith))

pub loop-g-preserved : goal.loop-g-preserved
loop-g-preserved c =
    let a = c.args in
    let l = c.loop-g in
    let g = l.g in
    c.store8.ensures
    ∙ ap (λ y. put y (8 * g) (bytes 8 c.group_bits.result)) l.invariant
    ∙ next_group a.bitmap.now a.words.now a.ends.now.w a.ends.now.band g (g + 1) (g * a.ends.now.w) _ refl refl
    (omega arith) c.group_bits.ensures

pub returns : goal.returns
returns c =
    let all : c.loop-g.g ≡ c.args.q = omega arith in
    rw (← all) c.loop-g.invariant
