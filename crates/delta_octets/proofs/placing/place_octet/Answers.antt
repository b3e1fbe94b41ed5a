-- `delta_octets::placing::place_octet` meets its contract: both ways give what the contract says.
use Rattle.std.proofs.Common.{◌≡◌, ◌+◌, arith}
use Rattle.delta_octets.specs.Steps.{packed_step, step_from, step_from_lem, step-place}
use Rattle.delta_octets.specs.EntryByEntry.{passed-same}
use Rattle.delta_octets.specs.TwoWritings.{places, places-none, places-more}
use Rattle.delta_octets.proofs.placing.place_octet.Goals as goal

pub overflow_mul-at : goal.overflow_mul-at
overflow_mul-at c = let s = c in omega (arith, step-place s.args.j s.args.w (omega arith) s.requires.0)

pub overflow_add-at : goal.overflow_add-at
overflow_add-at c = let s = c in omega (arith, step-place s.args.j s.args.w (omega arith) s.requires.0)

pub overflow_add-at-then-k-eq8 : goal.overflow_add-at-then-k-eq8
overflow_add-at-then-k-eq8 c =
    let s = c in omega (arith, step-place s.args.j s.args.w (omega arith) s.requires.0)

pub returns-then-at-w : goal.returns-then-at-w
returns-then-at-w c =
    let k = c.place_whole in
    let s = c in
    let a = s.args in
    let all : a.k ≡ 8 = c.if-k-eq8.true in
    let p = passed-same (places 32) 32 a.from (λ u. packed_step a.least a.body.now a.w (a.j + u))
    a.i a.entries.now 8 k.result k.new.entries
    (step_from a.least a.body.now _ a.w) (places-none 32 a.i a.entries.now)
    (places-more 32 a.i a.entries.now 8 (omega arith))
    (λ u. step_from_lem a.least a.body.now a.w a.j u s.requires.1)
    (record { entry = k.ensures.entry; wrote = k.ensures.wrote }) in
    rw all (record { entry = p.entry; wrote = p.wrote })
