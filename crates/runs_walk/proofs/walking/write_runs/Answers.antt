-- `runs_walk::walking::write_runs` meets its contract. The loop's invariant: going on from here leaves what the pass
-- leaves. Each run has an entry, so fewer are left with each turn.
use Rattle.std.proofs.Common.{refl, sym, ap, ◌∙◌, arith, rules}
use Rattle.runs_read.specs.Parts.{body-fits}
use Rattle.runs_read.specs.FoundRuns.{found_of, found_repeated, found_packed}
use Rattle.runs_walk.specs.CountedTurns.{begins, on_repeated, on_body, on_refused, ends}
use Rattle.runs_walk.proofs.walking.write_runs.Goals as goal

pub loop-i-init : goal.loop-i-init
loop-i-init g c =
    let a = c.args in
    (omega arith, begins a.n (g.T.RunWriting.write a.writing) a.w a.page.now _ a.out.now refl)

pub write_same-requires : goal.write_same-requires
write_same-requires g c =
    let ran = found_repeated _ _ _ _ c.found_at.ensures c.in-Repeated.is in
    (c.requires.0, ran.1, omega arith, rw c.loop-i.auto.out (omega arith))

pub overflow_add-i : goal.overflow_add-i
overflow_add-i g c = omega (arith, found_repeated _ _ _ _ c.found_at.ensures c.in-Repeated.is)

pub loop-i-smaller-in-Repeated : goal.loop-i-smaller-in-Repeated
loop-i-smaller-in-Repeated g c = omega (arith, found_repeated _ _ _ _ c.found_at.ensures c.in-Repeated.is)

pub loop-i-preserved-in-Repeated : goal.loop-i-preserved-in-Repeated
loop-i-preserved-in-Repeated g c =
    let ran = found_repeated _ _ _ _ c.found_at.ensures c.in-Repeated.is in (
      omega arith,
      on_repeated _ (g.T.RunWriting.write c.args.writing) _ _ _ (omega arith) c.loop-i.invariant.1 ran.0
          c.write_same.ensures,
    )

pub overflow_mul-groups : goal.overflow_mul-groups
overflow_mul-groups g c = omega (arith, found_packed _ _ _ _ c.found_at.ensures c.in-Packed.is)

pub write_packed-requires : goal.write_packed-requires
write_packed-requires g c =
    let ran = found_packed _ _ _ _ c.found_at.ensures c.in-Packed.is in (
      c.requires.0,
      c.requires.1,
      omega arith,
      omega arith,
      omega arith,
      omega (arith, body-fits c.args.w c.in-Packed.groups c.min.result (omega arith)),
      rw c.loop-i.auto.out (omega arith),
    )

pub overflow_mul-i : goal.overflow_mul-i
overflow_mul-i g c = omega (arith, found_packed _ _ _ _ c.found_at.ensures c.in-Packed.is)

pub overflow_add-i-in-Packed : goal.overflow_add-i-in-Packed
overflow_add-i-in-Packed g c = omega (arith, found_packed _ _ _ _ c.found_at.ensures c.in-Packed.is)

pub loop-i-smaller : goal.loop-i-smaller
loop-i-smaller g c = omega (arith, found_packed _ _ _ _ c.found_at.ensures c.in-Packed.is)

pub loop-i-preserved : goal.loop-i-preserved
loop-i-preserved g c =
    let ran = found_packed _ _ _ _ c.found_at.ensures c.in-Packed.is in (
      omega arith,
      on_body _ (g.T.RunWriting.write c.args.writing) _ _ _ (omega arith) c.loop-i.invariant.1
          (g.met.T.RunWriting.of_values c.args.writing) ran.0 c.min.ensures c.write_packed.ensures,
    )

pub returns-in-Refused : goal.returns-in-Refused
returns-in-Refused g c =
    sym
    (on_refused _ (g.T.RunWriting.write c.args.writing) _ _ _ (search rules)
    c.loop-i.invariant.1 (sym c.found_at.ensures ∙ ap found_of c.in-Refused.is))

pub returns : goal.returns
returns g c =
    sym (ends _ (g.T.RunWriting.write c.args.writing) _ _ _ c.loop-i.invariant.1 (search rules))
