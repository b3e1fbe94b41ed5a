-- `delta_read::width_bytes::judge_widths` meets its contract: the chain looks for a width above the limit among those
-- that are needed and there.
use Rattle.std.proofs.Common.{rules, tests, ◌≡◌, Bool, cond, ltb, ℕ, ◌-◌, ◌≤◌, List, length, take, drop, sym, ap, ◌∙◌, length-drop, lt-ltb, le-ltb}
use Rattle.std.proofs.Math.Seq.{take-length}
use Rattle.std.specs.List.{list_any}
use Rattle.std.specs.Slice.Iter.{iter_rest}
use Rattle.std.proofs.lemmas.Iterator.{YieldsList-from_slice, YieldsList-from_take}
use Rattle.std.proofs.lemmas.Iterator.Search.{any_from_yields_List}
use Rattle.rules.specs.Answer.{faulty}
use Rattle.rules.specs.Delta.{width_fault}
use Rattle.delta_read.specs.WidthBytes.{widths_judged}
use Rattle.delta_read.proofs.width_bytes.judge_widths.Goals as goal

-- the part from `at` on
abbrev part : ℕ → List ℕ → List ℕ
part at page = take (length page - at) (drop at page)

-- and what the test over its needed ones says
judged : (all need at : ℕ) (page : List ℕ) (wide : Bool) → need ≤ all
    → wide ≡ list_any (ltb 32) (take need (part at page))
    → width_fault 32 all need (drop at page) ≡ cond wide 1 (faulty (ltb (length (part at page)) all) 5)
judged all need at page wide few e =
    let whole : part at page ≡ drop at page = rw (← (length-drop at page)) (take-length (drop at page)) in
    ap (width_fault 32 all need) (sym whole) ∙ rw e (widths_judged 32 all need (part at page) few)

pub returns-then-any : goal.returns-then-any
returns-then-any c =
    let a = c.args in
    let wide = any_from_yields_List (ltb 32) _ _ _ c.any.ensures.ran
    (YieldsList-from_take _ (YieldsList-from_slice _ (ap iter_rest c.take.ensures.source ∙ c.iter.ensures.rest))
    c.take.ensures.count) (λ x b q k. search (rules, tests)) in
    rw (judged a.all a.need a.at a.page.now _ c.requires.1 wide, c.if-any.true)

pub returns-then-widths-all : goal.returns-then-widths-all
returns-then-widths-all c =
    let a = c.args in
    let wide = any_from_yields_List (ltb 32) _ _ _ c.any.ensures.ran
    (YieldsList-from_take _ (YieldsList-from_slice _ (ap iter_rest c.take.ensures.source ∙ c.iter.ensures.rest))
    c.take.ensures.count) (λ x b q k. search (rules, tests)) in
    rw (judged a.all a.need a.at a.page.now _ c.requires.1 wide, c.if-any.false, lt-ltb _ _ c.if-widths-all.true)

pub returns : goal.returns
returns c =
    let a = c.args in
    let wide = any_from_yields_List (ltb 32) _ _ _ c.any.ensures.ran
    (YieldsList-from_take _ (YieldsList-from_slice _ (ap iter_rest c.take.ensures.source ∙ c.iter.ensures.rest))
    c.take.ensures.count) (λ x b q k. search (rules, tests)) in
    rw (judged a.all a.need a.at a.page.now _ c.requires.1 wide, c.if-any.false, le-ltb _ _ c.if-widths-all.false)
