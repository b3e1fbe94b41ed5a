-- `spans_mark::judging::is_misplaced` meets its contract. The loop's invariant: some pair passed is misplaced, or
-- one is among those left, where `from` is the least number that may come next.
use mathlib.Core.Path.{◌≡◌, refl, sym, ◌∙◌}
use mathlib.Core.Bool.{Bool, ◌||◌, true, false}
use mathlib.Core.List.{List, [], ◌∷◌, ◌++◌}
use Prim.Native.Nat.{ℕ, min, ◌+◌, ◌≤◌, ◌<◌}
use native.Mathlib.Omega.{arith}
use lib.ListN.{length, get_or}
use Rattle.rules.specs.Spans.{misplaced}
use Rattle.spans_mark.specs.Covers.{pair_misplaced, misplaced-step}
use Rattle.spans_mark.proofs.judging.is_misplaced.Goals as goal

-- the pair that comes next, of those left
step : (n from : ℕ) (found : Bool) (left pair rest : List ℕ) → n ≤ 16384 → left ≡ pair ++ rest → length pair ≡ 2
    → (found || misplaced n from left)
    ≡ ((found || pair_misplaced n from (get_or pair 0 0) (get_or pair 1 0))
    || misplaced n (min (get_or pair 1 0) 16384 + 2) rest)
step n from found left (first ∷ last ∷ []) rest few e two =
    rw e (misplaced-step n from (first ∷ last ∷ rest) 0 few (omega arith) found)
step n from found left [] rest few e two = absurd (omega arith)
step n from found left (first ∷ []) rest few e two = absurd (omega arith)
step n from found left (first ∷ last ∷ more ∷ s) rest few e two = absurd (omega arith)

-- no pair is left
none : (n from : ℕ) (left : List ℕ) (found : Bool) → length left < 2 → (found || misplaced n from left) ≡ found
unfolding misplaced
none n from left true h = refl
none n from [] false h = refl
none n from (first ∷ []) false h = refl
none n from (first ∷ last ∷ s) false h = absurd (omega arith)

pub loop-pair-preserved : goal.loop-pair-preserved
loop-pair-preserved c =
    let l = c.loop-pair in
    let h = c.in-Some.ensures.steps in
    let next =
    step c.args.n l.from l.found l.pair-iterator.rest.now c.in-Some.pair.now c.next.new.self.rest.now c.requires.0
    h.1.0 (h.1.1 ∙ l.invariant.0) in
    (h.0 ∙ l.invariant.0, rw (c.pair_misplaced-found.ensures, c.next_from-from.ensures) (l.invariant.1 ∙ next))

pub returns : goal.returns
returns c =
    let l = c.loop-pair in
    let h = c.in-None.ensures.steps in
    sym (l.invariant.1
    ∙ none c.args.n l.from l.pair-iterator.rest.now l.found (omega (arith, h.1.0, l.invariant.0)))
