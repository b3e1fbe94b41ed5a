-- `vertical_planes::selecting::select_fours` meets its contract.
use mathlib.Core.Path.{◌≡◌, ap, ◌∙◌}
use Prim.Native.Nat.{ℕ, ◌+◌, ◌*◌}
use native.Mathlib.Omega.{arith}
use Rattle.rules.specs.Bits.{put, bytes}
use Rattle.words.specs.Entries.{place-within}
use Rattle.vertical_planes.specs.Chosen.{chosen, none-chosen, next_four}
use Rattle.vertical_planes.proofs.selecting.select_fours.Goals as goal

pub loop-k-init : goal.loop-k-init
loop-k-init c =
    let a = c.args in
    none-chosen a.bitmap.now a.words.now a.ends.now.w a.ends.now.band

pub four_groups-four-requires : goal.four_groups-four-requires
four_groups-four-requires c =
    let a = c.args in
    let k = c.loop-k.k in
    omega (arith, place-within a.ends.now.w (4 * k + 3) (4 * a.m) (omega arith))

pub loop-k-preserved : goal.loop-k-preserved
loop-k-preserved c =
    let a = c.args in
    let l = c.loop-k in
    let r = c.four_groups-four.result in
    let sums = c.four_groups-four.ensures in
    let g = 4 * l.k in
    let more : 64 * (g + 4) ≡ 64 * (4 * (l.k + 1)) = omega arith in
    c.store8-in-loop-k-3.ensures
    ∙ ap (λ x. put x (8 * (g + 3)) (bytes 8 r.fourth.bits))
    (c.store8-in-loop-k-2.ensures
    ∙ ap (λ x. put x (8 * (g + 2)) (bytes 8 r.third.bits))
    (c.store8-in-loop-k.ensures
    ∙ ap (λ x. put x (8 * (g + 1)) (bytes 8 r.second.bits))
    (c.store8.ensures ∙ ap (λ x. put x (8 * g) (bytes 8 r.first.bits)) l.invariant)))
    ∙ next_four a.bitmap.now a.words.now a.ends.now.w a.ends.now.band g _ _ _ _ (omega arith)
    sums.0 sums.1 sums.2 sums.3
    ∙ ap (λ (k : ℕ). put a.bitmap.now 0 (chosen a.words.now k a.ends.now.w a.ends.now.band)) more

pub returns : goal.returns
returns c =
    let all : c.loop-k.k ≡ c.args.m = omega arith in
    rw (← all) c.loop-k.invariant
