-- `runs_write::stretches::stretch_at` meets its contract: the entries that the chain counts are those equal to the first.
use Rattle.std.proofs.Common.{rules, tests, arith, ap, sym, ◌∙◌, drop, nat_eq}
use Rattle.std.specs.Slice.Iter.{iter_rest}
use Rattle.std.proofs.lemmas.Iterator.{YieldsList-from_slice}
use Rattle.std.proofs.lemmas.Iterator.Consumers.{count_from_yields_List}
use Rattle.std.proofs.lemmas.Iterator.Search.{YieldsList-from_take_while}
use Rattle.std.proofs.lemmas.List.{take_rest}
use Rattle.std.proofs.lemmas.List.Folds.{length-prefix_len}
use Rattle.runs_write.specs.Places.{stretch_prefix, stretch-past}
use Rattle.runs_write.proofs.stretches.stretch_at.Goals as goal

pub returns-in_default : goal.returns-in_default
returns-in_default c = sym (stretch-past c.args.entries.now c.args.p c.in_default.ensures.lookup.3)

pub returns : goal.returns
returns c =
    let s = drop c.args.p c.args.entries.now in
    let first = c.in-Some.first.now in
    let found = c.in-Some.ensures.lookup in
    let rest = c.iter.ensures.rest ∙ take_rest c.args.entries.now c.args.p in
    count_from_yields_List c.take_while.result _ c.count.ensures.ran
    (YieldsList-from_take_while _ (λ x. nat_eq x first)
    (YieldsList-from_slice s (ap iter_rest c.take_while.ensures.source ∙ rest))
    c.take_while.ensures.closure c.take_while.ensures.done (λ x b q k. search (rules, tests)))
    ∙ length-prefix_len _ s
    ∙ stretch_prefix c.args.entries.now c.args.p first found.3.0 (found.4 (omega arith) 0)
