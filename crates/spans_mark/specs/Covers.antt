-- A list of pairs, walked: whether it is well placed, and the entries that it covers.
use Rattle.std.specs.Prelude.{◌≡◌, Bool, ◌&&◌, ◌||◌, ℕ, suc, ◌+◌, ◌≤◌, ◌<◌, min, ltb, leb, length, drop, get_or}
use Rattle.std.proofs.Math.Path.{refl, ap}
use Rattle.std.proofs.Common.{sym, ◌∙◌, arith, drop_of_length-le, drop-cons, ltb-true, ltb-false, le-ltb, le-leb}
use Rattle.std.proofs.Math.Bool.{true, false}
use mathlib.Core.List.{List, [], ◌∷◌}
use Rattle.std.proofs.lemmas.Bool.{lt-leb}
use Rattle.rules.specs.Spans.{covered, misplaced}
use Rattle.spans_mark.specs.Placed.{Placed, first-placed, covered-low}

-- ---- pair k

-- what is left of a list from an even place on, and its first two numbers
pub pair_at_lem : (l : List ℕ) (k : ℕ) → k + 1 < length l → drop k l ≡ get_or l k 0 ∷ get_or l (k + 1) 0 ∷ drop (k + 2) l
pair_at_lem l k h =
    let one : suc k ≡ k + 1 = omega arith in
    let two : suc (k + 1) ≡ k + 2 = omega arith in
    drop-cons l k 0 (omega arith) ∙ ap (λ (s : List ℕ). get_or l k 0 ∷ s)
    (ap (λ (j : ℕ). drop j l) one ∙ drop-cons l (k + 1) 0 h ∙ ap (λ (j : ℕ). get_or l (k + 1) 0 ∷ drop j l) two)

-- ---- is it well placed

abbrev pub pair_misplaced : ℕ → ℕ → ℕ → ℕ → Bool
pair_misplaced n from first last = ltb first from || ltb last first || leb n last

module _ (n from first last : ℕ) (s : List ℕ) where
  misplaced-or : misplaced n from (first ∷ last ∷ s) ≡ (pair_misplaced n from first last || misplaced n (last + 2) s)
  unfolding misplaced
  misplaced-or = go (ltb first from) (ltb last first) (leb n last)
    where
      go : (a b c : Bool) → (a || b || c || misplaced n (last + 2) s) ≡ ((a || b || c) || misplaced n (last + 2) s)
      go true b c = refl
      go false true c = refl
      go false false c = refl

-- where some was found already, or is with this pair; behind a pair that reaches 16,384 the least number no longer
-- matters
pub misplaced-step : (n from : ℕ) (l : List ℕ) (k : ℕ) → n ≤ 16384 → k + 1 < length l → (found : Bool)
    → (found || misplaced n from (drop k l))
    ≡ ((found || pair_misplaced n from (get_or l k 0) (get_or l (k + 1) 0))
    || misplaced n (min (get_or l (k + 1) 0) 16384 + 2) (drop (k + 2) l))
misplaced-step n from l k few h true = refl
misplaced-step n from l k few h false =
    ap (misplaced n from) (pair_at_lem l k h) ∙ misplaced-or n from first last rest ∙ go (ltb 16384 last) refl
  where
    first : ℕ
    first = get_or l k 0

    last : ℕ
    last = get_or l (k + 1) 0

    rest : List ℕ
    rest = drop (k + 2) l

    or-true : (a b : Bool) → (a || b || true) ≡ true
    or-true true b = refl
    or-true false true = refl
    or-true false false = refl

    go : (t : Bool) → ltb 16384 last ≡ t
        → (pair_misplaced n from first last || misplaced n (last + 2) rest)
        ≡ (pair_misplaced n from first last || misplaced n (min last 16384 + 2) rest)
    go true e =
        let past : leb n last ≡ true = le-leb n last (omega (arith, ltb-true 16384 last e)) in
        rw (past, or-true)
    go false e =
        let same : min last 16384 ≡ last = omega (arith, ltb-false 16384 last e) in
        rw same

pub misplaced-end : (n from : ℕ) (l : List ℕ) (k : ℕ) → length l ≤ k → misplaced n from (drop k l) ≡ false
unfolding misplaced
misplaced-end n from l k h = rw (drop_of_length-le l h)

-- a list may also begin earlier
misplaced-less : (n from less : ℕ) (l : List ℕ) → less ≤ from → misplaced n from l ≡ false → misplaced n less l ≡ false
unfolding misplaced
misplaced-less n from less [] h e = refl
misplaced-less n from less (x ∷ []) h e = refl
misplaced-less n from less (first ∷ last ∷ s) h e =
    let p = first-placed n from first last s e in
    rw (le-ltb first less (omega (arith, p.begins_at)), le-ltb last first p.ordered, lt-leb n last p.below)
    p.rest

-- ---- the entries that it covers

-- from place k on nothing lies before entry p, and what is covered from p on is covered there
pub record Covering (n : ℕ) (l : List ℕ) (k p : ℕ) : Type 0 where
  pub within : p ≤ n
  pub placed : misplaced n p (drop k l) ≡ false
  pub same : (j : ℕ) → p ≤ j → covered l j ≡ covered (drop k l) j

pub covering-none : (n : ℕ) (l : List ℕ) → misplaced n 0 l ≡ false → Covering n l 0 0
covering-none n l e = record { within = omega arith; placed = e; same = λ j h. refl }

module _ (n : ℕ) (l : List ℕ) (k p : ℕ) (c : Covering n l k p) where
  module _ (h : k + 1 < length l) where
    abbrev first : ℕ
    first = get_or l k 0

    abbrev last : ℕ
    last = get_or l (k + 1) 0

    pub covering-pair : Placed n p first last (drop (k + 2) l)
    covering-pair = first-placed n p first last (drop (k + 2) l) (ap (misplaced n p) (sym (pair_at_lem l k h)) ∙ c.placed)

    covered-pair : (j : ℕ) → p ≤ j → covered l j ≡ (leb first j && leb j last || covered (drop (k + 2) l) j)
    unfolding covered
    covered-pair j m = c.same j m ∙ ap (λ (s : List ℕ). covered s j) (pair_at_lem l k h)

    pub covering-gap : (j : ℕ) → p ≤ j → j < first → covered l j ≡ false
    covering-gap j m b =
        covered-pair j m ∙ rw (lt-leb first j b)
        (covered-low n (last + 2) (drop (k + 2) l) j covering-pair.rest (omega (arith, covering-pair.ordered)))

    pub covering-stretch : (j : ℕ) → first ≤ j → j < last + 1 → covered l j ≡ true
    covering-stretch j m b =
        covered-pair j (omega (arith, covering-pair.begins_at)) ∙ rw (le-leb first j m, le-leb j last (omega arith))

    pub covering-next : Covering n l (k + 2) (last + 1)
    covering-next =
        record {
          within = omega (arith, covering-pair.below);
          placed = misplaced-less n (last + 2) (last + 1) (drop (k + 2) l) (omega arith) covering-pair.rest;
          same =
              λ j m. covered-pair j (omega (arith, covering-pair.begins_at, covering-pair.ordered))
              ∙ rw (lt-leb j last (omega arith)) (off (leb first j) (covered (drop (k + 2) l) j));
        }
      where
        off : (s t : Bool) → (s && false || t) ≡ t
        off true t = refl
        off false t = refl

  -- nothing is covered behind the last
  pub covering-end : length l ≤ k → (j : ℕ) → p ≤ j → covered l j ≡ false
  unfolding covered
  covering-end h j m = c.same j m ∙ rw (drop_of_length-le l h)
