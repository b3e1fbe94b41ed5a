-- `runs_read::judging::judge_stream` meets its contract. The loop's invariant: the code is what judging on from
-- here gives.
-- Each run has an entry, so fewer are left with each turn.
use mathlib.Core.Path.{sym, ap, ◌∙◌}
use native.Mathlib.Omega.{arith}
use borrow.Author.Rules.{rules}
use borrow.Author.Tests.{lt-ltb, le-ltb}
use Rattle.runs_read.specs.FoundRuns.{found_of, found_repeated, found_packed}
use Rattle.runs_read.specs.Walks.{on_refused, on_repeated, on_packed, on_end}
use Rattle.runs_read.specs.TwoPasses.{judge, judge-comes}
use Rattle.runs_read.proofs.judging.judge_stream.Goals as goal

pub loop-left-init : goal.loop-left-init
loop-left-init c = (search rules, judge-comes _ _ _)

pub loop-left-smaller-in-Repeated : goal.loop-left-smaller-in-Repeated
loop-left-smaller-in-Repeated c =
    omega (arith, found_repeated _ _ _ _ c.found_at.ensures c.in-Repeated.is, c.saturating_sub-left.ensures)

pub loop-left-preserved-in-Repeated : goal.loop-left-preserved-in-Repeated
loop-left-preserved-in-Repeated c =
    let ran = found_repeated _ _ _ _ c.found_at.ensures c.in-Repeated.is in (
      omega (arith, c.saturating_sub-left.ensures),
      rw c.saturating_sub-left.ensures (on_repeated judge c.loop-left-test.true c.loop-left.invariant.1 ran.0),
    )

pub overflow_mul-groups : goal.overflow_mul-groups
overflow_mul-groups c =
    omega (arith, found_packed _ _ _ _ c.found_at.ensures c.in-Packed.is)

pub loop-left-smaller : goal.loop-left-smaller
loop-left-smaller c =
    omega (arith, found_packed _ _ _ _ c.found_at.ensures c.in-Packed.is, c.saturating_sub-left-in-Packed.ensures)

pub loop-left-preserved : goal.loop-left-preserved
loop-left-preserved c =
    let ran = found_packed _ _ _ _ c.found_at.ensures c.in-Packed.is in (
      omega (arith, c.saturating_sub-left-in-Packed.ensures),
      rw c.saturating_sub-left-in-Packed.ensures
          (on_packed judge c.loop-left-test.true c.loop-left.invariant.1 ran.0),
    )

pub returns-in-Refused : goal.returns-in-Refused
returns-in-Refused c =
    sym
    (on_refused judge c.loop-left-test.true c.loop-left.invariant.1
    (sym c.found_at.ensures ∙ ap found_of c.in-Refused.is))

pub returns-then-at-page : goal.returns-then-at-page
returns-then-at-page c = sym (on_end judge c.loop-left.invariant.1 (search rules) ∙ rw (lt-ltb _ _ c.if-at-page.true))

pub returns : goal.returns
returns c = sym (on_end judge c.loop-left.invariant.1 (search rules) ∙ rw (le-ltb _ _ c.if-at-page.false))
