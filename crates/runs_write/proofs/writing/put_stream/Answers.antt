-- `runs_write::writing::put_stream` meets its contract: the runs passed are stored, and the stream from here on is
-- to come behind them.
use mathlib.Core.Path.{◌≡◌, refl, sym, ap, ◌∙◌}
use native.Mathlib.Omega.{arith}
use borrow.Author.Rules.{rules}
use Rattle.rules.specs.Bits.{put}
use Rattle.rules.specs.RunWriter.{taken}
use Rattle.words.specs.Puts.{put-none}
use Rattle.runs_write.specs.RunByRun.{begins_with, put-turn, stream-past}
use Rattle.runs_write.proofs.writing.put_stream.Goals as goal

pub loop-p-init : goal.loop-p-init
loop-p-init c = (refl, omega arith, refl)

pub put_run-at-requires : goal.put_run-at-requires
put_run-at-requires c =
    let run = begins_with c.args.w _ _ c.loop-p-test.true c.next_run-next.ensures in
    (search rules, search rules, c.requires.2, omega arith, omega (arith, c.loop-p.invariant.0))

pub taken-p-requires : goal.taken-p-requires
taken-p-requires c =
    let run = begins_with c.args.w _ _ c.loop-p-test.true c.next_run-next.ensures in
    omega (arith, run)

pub overflow_add-p : goal.overflow_add-p
overflow_add-p c =
    let run = begins_with c.args.w _ _ c.loop-p-test.true c.next_run-next.ensures in
    omega (arith, run)

pub loop-p-smaller : goal.loop-p-smaller
loop-p-smaller c =
    let run = begins_with c.args.w _ _ c.loop-p-test.true c.next_run-next.ensures in
    omega (arith, run)

pub loop-p-preserved : goal.loop-p-preserved
loop-p-preserved c =
    let run = begins_with c.args.w _ _ c.loop-p-test.true c.next_run-next.ensures in
    let l = c.loop-p in
    let laid = c.put_run-at in
    let e : c.taken-p.result ≡ taken c.next_run-next.result = c.taken-p.ensures in (
      search rules,
      rw e (omega arith),
      rw (e, laid.ensures.stored, laid.ensures.next)
          (put-turn l.page l.at run (omega (arith, l.invariant.0)) ∙ l.invariant.2),
    )

pub returns : goal.returns
returns c =
    let a = c.args in
    let l = c.loop-p in
    put-none l.page l.at
    ∙ ap (put l.page l.at) (sym (stream-past a.w a.entries.now l.p c.loop-p-test.false))
    ∙ l.invariant.2
