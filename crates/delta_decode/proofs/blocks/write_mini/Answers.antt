-- `delta_decode::blocks::write_mini` meets its contract: up to eight entries more each turn.
use Rattle.std.proofs.Common.{◌≡◌, ◌+◌, ◌-◌, min, arith}
use Rattle.delta_octets.specs.Steps.{packed_step}
use Rattle.delta_octets.specs.EntryByEntry.{passed_none, passed_eight}
use Rattle.delta_decode.proofs.blocks.write_mini.Goals as goal

pub loop-j-init : goal.loop-j-init
loop-j-init g c =
    let a = c.args in
    let none : min 0 a.k ≡ 0 = omega arith in (
      omega arith,
      rw none
          (passed_none (g.T.Writing.write a.writing) 32 a.from (packed_step a.least a.body.now a.w) a.i a.out.now
          (g.met.T.Writing.laws.starts a.writing a.i a.out.now)),
    )

pub write_octet-x-requires : goal.write_octet-x-requires
write_octet-x-requires g c =
    let l = c.loop-j in
    let a = c.args in (
      c.requires.0,
      l.invariant.0,
      omega arith,
      omega arith,
      omega arith,
      omega arith,
      g.met.T.Writing.laws.part a.writing a.i a.k l.j c.min.result a.out.now l.out c.requires.2 l.auto.out
          l.invariant.0 (omega arith),
    )

pub loop-j-preserved : goal.loop-j-preserved
loop-j-preserved g c =
    let l = c.loop-j in
    let a = c.args in
    let few : c.min.result ≡ min 8 (a.k - l.j) = omega arith in
    let e = c.write_octet-x.ensures in (
      omega arith,
      passed_eight (g.T.Writing.write a.writing) 32 a.from (packed_step a.least a.body.now a.w) a.i a.out.now a.k l.j
          l.x _ l.out _ (g.met.T.Writing.laws.grows a.writing a.i a.k a.out.now c.requires.2) l.invariant.0
          (omega arith) l.invariant.1 (record { entry = rw few at e.entry; wrote = rw few at e.wrote }),
    )

pub returns : goal.returns
returns g c =
    let l = c.loop-j in
    let all : min l.j c.args.k ≡ c.args.k = omega arith in
    let p = rw all at l.invariant.1 in
    record { entry = p.entry; wrote = p.wrote }

-- the last entries
pub returns-2 : goal.returns-2
returns-2 g c =
    let l = c.loop-j in
    let a = c.args in
    let few : c.min.result ≡ min 8 (a.k - l.j) = omega arith in
    let e = c.write_octet-x.ensures in
    let all : min (l.j + 8) a.k ≡ a.k = omega arith in
    let p = rw all at
    (passed_eight (g.T.Writing.write a.writing) 32 a.from (packed_step a.least a.body.now a.w) a.i a.out.now a.k l.j
    l.x _ l.out _ (g.met.T.Writing.laws.grows a.writing a.i a.k a.out.now c.requires.2) l.invariant.0
    (omega arith) l.invariant.1 (record { entry = rw few at e.entry; wrote = rw few at e.wrote })) in
    record { entry = p.entry; wrote = p.wrote }
