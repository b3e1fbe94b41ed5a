-- `delta_octets::placing::place_whole` meets its contract: an entry more each turn.
use Rattle.std.proofs.Common.{◌≡◌, ◌*◌, ◌≤◌, ◌∙◌, mul-le-mul_right, arith, w32}
use mir.ValLaws.{to_z-of_z}
use Rattle.delta_octets.specs.Steps.{step_from}
use Rattle.delta_octets.specs.EntryByEntry.{passed_none}
use Rattle.delta_octets.specs.TwoWritings.{places, places-none, places-next}
use Rattle.delta_octets.proofs.placing.place_whole.Goals as goal
use Rattle.delta_octets.proofs.placing.place_whole.Goals.{After-signed32}

pub loop-u-init : goal.loop-u-init
loop-u-init c =
    let a = c.args in
    passed_none (places 32) 32 a.from (step_from a.least a.body.now a.at a.w) a.i
    a.entries.now (places-none 32 a.i a.entries.now)

-- the entry's window ends within the body
low : (c : After-signed32)
    → let l = c.loop-u in let a = c.args in l.u * a.w ≤ 7 * a.w
low c = mul-le-mul_right _ (omega arith)

pub overflow_mul-u : goal.overflow_mul-u
overflow_mul-u c = omega (arith, low c)

pub stepped_in-x-requires : goal.stepped_in-x-requires
stepped_in-x-requires c = omega (arith, low c)

pub loop-u-preserved : goal.loop-u-preserved
loop-u-preserved c =
    let l = c.loop-u in
    let a = c.args in
    let z = c.signed32 in
    places-next 32 a.from (step_from a.least a.body.now a.at a.w) a.i a.entries.now l.u
    l.x c.stepped_in-x.result l.entries _ (omega arith) l.invariant
    (to_z-of_z w32 z.result (record { sfits = z.type_inv }) ∙ z.ensures) c.stepped_in-x.ensures

pub returns : goal.returns
returns c =
    let l = c.loop-u in
    let all : l.u ≡ 8 = omega arith in
    let p = rw all at l.invariant in
    record { entry = p.entry; wrote = p.wrote }
