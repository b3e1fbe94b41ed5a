-- `dictionary_indexes::large::judge_runs` meets its contract. The loop's invariant: the code is what judging on
-- from here gives, and what was found with what going on finds is what the pass finds. Each run has an entry, so
-- fewer are left with each turn.
use mathlib.Core.Path.{refl, sym, ap, ◌∙◌}
use mathlib.Core.Bool.{false}
use native.Mathlib.Omega.{arith}
use lib.Dec.{leb}
use borrow.Author.Rules.{rules}
use borrow.Author.Tests.{lt-ltb, le-ltb}
use Rattle.std.specs.Prelude.{Bool, ◌||◌}
use Rattle.answers.specs.Laws.{then_found}
use Rattle.runs_read.specs.Parts.{body-fits}
use Rattle.runs_read.specs.FoundRuns.{found_of, found_repeated, found_packed}
use Rattle.runs_read.specs.Walks.{on_end}
use Rattle.runs_read.specs.TwoPasses.{judge}
use Rattle.runs_walk.specs.CountedTurns.{begins, on_repeated, on_body, ends}
use Rattle.dictionary_indexes.specs.SomeEntry.{seeks, sought-pass, seeks-same, seeks-values}
use Rattle.dictionary_indexes.specs.SomeEntry.{judging-begins, judging-repeated, judging-packed}
use Rattle.dictionary_indexes.specs.SomeEntry.{judging-refused, then_sought}
use Rattle.dictionary_indexes.proofs.large.judge_runs.Goals as goal

pub loop-i-init : goal.loop-i-init
loop-i-init c =
    let a = c.args in (
      search rules,
      refl,
      judging-begins a.w a.n a.page.now,
      begins a.n (seeks (leb a.limit)) a.w a.page.now _ false (sought-pass _ _ _ _),
    )

pub overflow_add-i : goal.overflow_add-i
overflow_add-i c = omega (arith, found_repeated _ _ _ _ c.found_at.ensures c.in-Repeated.is)

pub loop-i-smaller-in-Repeated : goal.loop-i-smaller-in-Repeated
loop-i-smaller-in-Repeated c = omega (arith, found_repeated _ _ _ _ c.found_at.ensures c.in-Repeated.is)

pub loop-i-preserved-in-Repeated : goal.loop-i-preserved-in-Repeated
loop-i-preserved-in-Repeated c =
    let a = c.args in
    let ran = found_repeated _ _ _ _ c.found_at.ensures c.in-Repeated.is in (
      omega arith,
      c.loop-i.invariant.1,
      judging-repeated a.w a.n a.page.now (omega arith) c.loop-i.invariant.2 ran.0,
      on_repeated _ (seeks (leb a.limit)) _ _ _ (omega arith) c.loop-i.invariant.3 ran.0
          (seeks-same (leb a.limit) c.loop-i.i c.in-Repeated.count c.in-Repeated.value c.loop-i.large ran.1 refl),
    )

pub overflow_mul-groups : goal.overflow_mul-groups
overflow_mul-groups c = omega (arith, found_packed _ _ _ _ c.found_at.ensures c.in-Packed.is)

pub some_packed-large-requires : goal.some_packed-large-requires
some_packed-large-requires c =
    let ran = found_packed _ _ _ _ c.found_at.ensures c.in-Packed.is in (
      search rules,
      omega arith,
      search rules,
      c.requires.3,
      omega (arith, body-fits c.args.w c.in-Packed.groups c.min.result (omega arith)),
      omega (arith, c.loop-i.invariant.1),
    )

pub overflow_mul-i : goal.overflow_mul-i
overflow_mul-i c = omega (arith, found_packed _ _ _ _ c.found_at.ensures c.in-Packed.is)

pub overflow_add-i-in-Packed : goal.overflow_add-i-in-Packed
overflow_add-i-in-Packed c = omega (arith, found_packed _ _ _ _ c.found_at.ensures c.in-Packed.is)

pub loop-i-smaller : goal.loop-i-smaller
loop-i-smaller c = omega (arith, found_packed _ _ _ _ c.found_at.ensures c.in-Packed.is)

pub loop-i-preserved : goal.loop-i-preserved
loop-i-preserved c =
    let a = c.args in
    let ran = found_packed _ _ _ _ c.found_at.ensures c.in-Packed.is in (
      omega arith,
      search rules,
      judging-packed a.w a.n a.page.now (omega arith) c.loop-i.invariant.2 ran.0,
      on_body _ (seeks (leb a.limit)) _ _ _ (omega arith) c.loop-i.invariant.3 (seeks-values (leb a.limit)) ran.0
          c.min.ensures (ap (λ (t : Bool). c.loop-i.large || t) c.some_packed-large.ensures),
    )

pub returns-in-Refused : goal.returns-in-Refused
returns-in-Refused c =
    let a = c.args in
    sym
    (judging-refused a.w a.n a.page.now (search rules) c.loop-i.invariant.2 _
    (sym c.found_at.ensures ∙ ap found_of c.in-Refused.is))

pub returns-then-at-page : goal.returns-then-at-page
returns-then-at-page c =
    sym
    (then_found _ _ 6 (on_end judge c.loop-i.invariant.2 (search rules) ∙ rw (lt-ltb _ _ c.if-at-page.true))
    (λ z. omega arith))

-- what was found is what the pass finds
pub returns-then-large : goal.returns-then-large
returns-then-large c =
    let a = c.args in
    let found =
    then_sought a.w a.n a.page.now (leb a.limit) c.loop-i.large
    (on_end judge c.loop-i.invariant.2 (search rules) ∙ rw (le-ltb _ _ c.if-at-page.false))
    (ends _ (seeks (leb a.limit)) _ _ _ c.loop-i.invariant.3 (search rules)) in
    sym (rw c.if-large.true at found)

pub returns : goal.returns
returns c =
    let a = c.args in
    let found =
    then_sought a.w a.n a.page.now (leb a.limit) c.loop-i.large
    (on_end judge c.loop-i.invariant.2 (search rules) ∙ rw (le-ltb _ _ c.if-at-page.false))
    (ends _ (seeks (leb a.limit)) _ _ _ c.loop-i.invariant.3 (search rules)) in
    sym (rw c.if-large.false at found)
