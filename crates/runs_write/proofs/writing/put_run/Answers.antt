-- `runs_write::writing::put_run` meets its contract: each kind by its own function.
use mathlib.Core.Path.{sym, ap, ◌∙◌}
use Prim.Native.Nat.{◌+◌}
use native.Mathlib.Omega.{arith}
use lib.ListN.{drop}
use Rattle.rules.specs.RunWriter.{taken}
use Rattle.rules.specs.declared.Next.TheVariants.{Repeats, Packs}
use Rattle.runs_write.specs.Sizes.{run_size, length-run-bytes}
use Rattle.runs_write.proofs.writing.put_run.Goals as goal

pub put_repeated-requires : goal.put_repeated-requires
put_repeated-requires c =
    let a = c.args in
    let e = c.in-Repeats.is in (
      c.requires.0,
      omega (arith, ap taken e),
      c.requires.1,
      omega (arith, ap (run_size a.w) e, length-run-bytes a.w (drop a.p a.entries.now) a.next),
    )

pub put_packed-requires : goal.put_packed-requires
put_packed-requires c =
    let a = c.args in
    let e = c.in-Packs.is in (
      c.requires.0,
      omega (arith, ap taken e),
      omega arith,
      c.requires.2,
      omega (arith, ap (run_size a.w) e, length-run-bytes a.w (drop a.p a.entries.now) a.next),
    )

pub returns-in-Repeats : goal.returns-in-Repeats
returns-in-Repeats c =
    let a = c.args in
    let laid = c.put_repeated.ensures in
    let size = length-run-bytes a.w (drop a.p a.entries.now) (Repeats c.in-Repeats.count) in
    record {
      stored = rw c.in-Repeats.is laid.stored;
      next = rw c.in-Repeats.is (laid.next ∙ ap (λ k. a.at + k) (sym size));
    }

pub returns-in-Packs : goal.returns-in-Packs
returns-in-Packs c =
    let a = c.args in
    let laid = c.put_packed.ensures in
    let size = length-run-bytes a.w (drop a.p a.entries.now) (Packs c.in-Packs.groups) in
    record {
      stored = rw c.in-Packs.is laid.stored;
      next = rw c.in-Packs.is (laid.next ∙ ap (λ k. a.at + k) (sym size));
    }
