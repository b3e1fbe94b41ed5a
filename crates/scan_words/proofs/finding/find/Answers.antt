-- `scan_words::finding::find` meets its contract: the first byte of the part that is the one looked for.
use Rattle.std.specs.Prelude.{Bool, true, false, List, [], ◌∷◌, ℕ, ltb, nat_eq, cond, not, Some, None}
use Rattle.std.specs.List.{position_or_len}
use Rattle.std.proofs.Common.{
  ◌≡◌,
  ◌+◌,
  ◌-◌,
  ◌≤◌,
  length,
  take,
  drop,
  refl,
  ap,
  sym,
  ◌∙◌,
  eqb,
  arith,
  rules,
  tests,
  Option,
  length-take-le,
  length-drop,
}
use borrow.Author.Tests.{ltb-false}
use Rattle.std.proofs.lemmas.Iterator.{YieldsList-from_slice}
use Rattle.std.proofs.lemmas.Iterator.Search.{position_from_yields_List}
use Rattle.std.proofs.lemmas.List.{drop-take}
use Rattle.scan_words.specs.Finding.{slice, index_of, index_after}
use Rattle.scan_words.proofs.finding.find.Goals as goal

first : (b : ℕ) (text : List ℕ) → position_or_len (λ x. nat_eq x b) text ≡ index_of b text
unfolding index_of index_after
first b [] = refl
first b (x ∷ text) = go (eqb x b) (first b text)
  where
    go : (t : Bool) → position_or_len (λ y. nat_eq y b) text ≡ index_of b text
        → cond (not t) (1 + position_or_len (λ y. nat_eq y b) text) 0 ≡ index_after t (index_of b text)
    go true e = refl
    go false e = omega (arith, e)

most : (b : ℕ) (text : List ℕ) → index_of b text ≤ length text
unfolding index_of index_after
most b [] = search rules
most b (x ∷ text) = go (eqb x b) (most b text)
  where
    go : (t : Bool) → index_of b text ≤ length text → index_after t (index_of b text) ≤ length (x ∷ text)
    go true h = omega arith
    go false h = omega (arith, h)

-- a part as the code takes it
part : (text : List ℕ) (from to : ℕ) → from ≤ to → take (to - from) (drop from text) ≡ slice from to text
unfolding slice
part text from to h =
    let whole : from + (to - from) ≡ to = omega arith in
    sym (drop-take from (to - from) text) ∙ ap (λ (n : ℕ). drop from (take n text)) whole

-- what is found, and what it means that nothing is
module _ (n m : ℕ) (r : Option ℕ) (e : r ≡ cond (ltb n m) (Some n) None) where
  at_some : (k : ℕ) → r ≡ Some k → k ≡ n
  at_some k f = go (ltb n m) e
    where
      go : (t : Bool) → r ≡ cond t (Some n) None → k ≡ n
      go true g = cc
      go false g = absurd (cc)

  at_none : r ≡ None → m ≤ n
  at_none f = go (ltb n m) refl e
    where
      go : (t : Bool) → ltb n m ≡ t → r ≡ cond t (Some n) None → m ≤ n
      go true h g = absurd (cc)
      go false h g = ltb-false n m h

pub returns-in-Some-clause-value : goal.returns-in-Some-clause-value
returns-in-Some-clause-value c =
    let a = c.args in
    let text = take (a.to - a.from) (drop a.from a.text.now) in
    let e =
    position_from_yields_List (λ b. nat_eq b a.byte) _ _ c.position.result c.position.ensures.ran
    (YieldsList-from_slice text cc) (λ x b q k. search (rules, tests)) in
    let i = first a.byte text in
    let s = part a.text.now a.from a.to c.requires.ordered in
    rw (← s, ← i) (ap (λ k. a.from + k) (at_some _ _ c.position.result e c.in-Some.k c.in-Some.is))

pub returns-in-None-clause-value : goal.returns-in-None-clause-value
returns-in-None-clause-value c =
    let a = c.args in
    let text = take (a.to - a.from) (drop a.from a.text.now) in
    let e =
    position_from_yields_List (λ b. nat_eq b a.byte) _ _ c.position.result c.position.ensures.ran
    (YieldsList-from_slice text cc) (λ x b q k. search (rules, tests)) in
    let i = first a.byte text in
    let s = part a.text.now a.from a.to c.requires.ordered in
    let past = at_none _ _ c.position.result e c.in-None.is in
    let size : length text ≡ a.to - a.from =
    omega (arith, length-take-le (a.to - a.from) (drop a.from a.text.now), length-drop a.from a.text.now) in
    rw (← s) (omega (arith, past, i, most a.byte text, size))
