-- `runs_write::sizes::stream_size` meets its contract: the bytes of the runs passed, and of the stream from here on.
use mathlib.Core.Path.{◌≡◌, ap}
use native.Mathlib.Omega.{arith}
use lib.ListN.{length}
use Rattle.rules.specs.RunWriter.{taken}
use Rattle.runs_write.specs.Sizes.{stream-size_le}
use Rattle.runs_write.specs.RunByRun.{begins_with, stream-past}
use Rattle.runs_write.proofs.sizes.stream_size.Goals as goal

pub run_size-size-requires : goal.run_size-size-requires
run_size-size-requires c =
    let run = begins_with c.args.w _ _ c.loop-p-test.true c.next_run-next.ensures in
    (omega arith, omega (arith, run))

pub overflow_add-size : goal.overflow_add-size
overflow_add-size c =
    let run = begins_with c.args.w _ _ c.loop-p-test.true c.next_run-next.ensures in
    let a = c.args in
    omega (
      arith,
      run,
      stream-size_le a.w c.requires.0 a.entries.now c.requires.1,
    )

pub taken-p-requires : goal.taken-p-requires
taken-p-requires c =
    let run = begins_with c.args.w _ _ c.loop-p-test.true c.next_run-next.ensures in
    omega (arith, run)

pub overflow_add-p : goal.overflow_add-p
overflow_add-p c =
    let run = begins_with c.args.w _ _ c.loop-p-test.true c.next_run-next.ensures in
    omega (arith, run)

pub loop-p-smaller : goal.loop-p-smaller
loop-p-smaller c =
    let run = begins_with c.args.w _ _ c.loop-p-test.true c.next_run-next.ensures in
    omega (arith, run)

pub loop-p-preserved : goal.loop-p-preserved
loop-p-preserved c =
    let run = begins_with c.args.w _ _ c.loop-p-test.true c.next_run-next.ensures in
    let a = c.args in
    let l = c.loop-p in
    let e : c.taken-p.result ≡ taken c.next_run-next.result = c.taken-p.ensures in
    rw e (omega (arith, run))

pub returns : goal.returns
returns c =
    let a = c.args in
    let l = c.loop-p in
    omega (arith, ap length (stream-past a.w a.entries.now l.p c.loop-p-test.false))
