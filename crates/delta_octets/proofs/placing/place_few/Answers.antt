-- `delta_octets::placing::place_few` meets its contract: an entry more each turn.
use Rattle.std.proofs.Common.{◌≡◌, ◌+◌, ◌∙◌, mul-le-mul, arith, w32}
use mir.ValLaws.{to_z-of_z}
use Rattle.delta_octets.specs.Steps.{packed_step}
use Rattle.delta_octets.specs.EntryByEntry.{passed_none}
use Rattle.delta_octets.specs.TwoWritings.{places, places-none, places-next}
use Rattle.delta_octets.proofs.placing.place_few.Goals as goal

pub loop-u-init : goal.loop-u-init
loop-u-init c =
    let a = c.args in
    passed_none (places 32) 32 a.from (λ e. packed_step a.least a.body.now a.w (a.j + e)) a.i
    a.entries.now (places-none 32 a.i a.entries.now)

pub overflow_mul-j : goal.overflow_mul-j
overflow_mul-j c =
    let l = c.loop-u in
    let a = c.args in
    omega (arith, mul-le-mul {n₁ = a.j + l.u} {m₁ = a.w} {n₂ = 16384} {m₂ = 32} (omega arith) (omega arith))

pub loop-u-preserved : goal.loop-u-preserved
loop-u-preserved c =
    let l = c.loop-u in
    let a = c.args in
    let z = c.signed32 in
    places-next 32 a.from (λ e. packed_step a.least a.body.now a.w (a.j + e)) a.i
    a.entries.now l.u l.x c.stepped-x.result l.entries _ (omega arith) l.invariant
    (to_z-of_z w32 z.result (record { sfits = z.type_inv }) ∙ z.ensures) c.stepped-x.ensures

pub returns : goal.returns
returns c =
    let l = c.loop-u in
    let all : l.u ≡ c.args.k = omega arith in
    rw (← all) (record { entry = l.invariant.entry; wrote = l.invariant.wrote })
