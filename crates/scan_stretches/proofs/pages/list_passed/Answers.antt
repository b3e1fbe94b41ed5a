-- `scan_stretches::pages::list_passed` meets its contract: each turn passes a pair.
use mathlib.Core.Path.{◌∙◌}
use native.Mathlib.Omega.{arith}
use Rattle.std.specs.Slice.Iter.{chunks_exact_rest}
use Rattle.scan_stretches.specs.Pages.{stretched, stretched-next, stretched-end}
use Rattle.scan_stretches.proofs.pages.list_passed.Goals as goal

pub loop-pair-preserved : goal.loop-pair-preserved
loop-pair-preserved c =
    let a = c.args in
    let step = c.in-Some.ensures.steps in
    record {
      pairs = step.0 ∙ c.loop-pair.invariant.pairs;
      whole =
          stretched-next a.start c.in-Some.pair.now (chunks_exact_rest c.loop-pair.pair-iterator)
          (chunks_exact_rest c.next.new.self) c.loop-pair.listing.going c.pair_passed-listing.result.going
          (stretched a.start a.list.now a.before.going) step.1.0 (step.1.1 ∙ c.loop-pair.invariant.pairs)
          c.pair_passed-listing.ensures c.loop-pair.invariant.whole;
    }

pub returns : goal.returns
returns c =
    let a = c.args in
    let few = c.in-None.ensures.steps.1.0 in
    stretched-end a.start (chunks_exact_rest c.loop-pair.pair-iterator) c.loop-pair.listing.going
    (stretched a.start a.list.now a.before.going) (omega (arith, few)) c.loop-pair.invariant.whole
