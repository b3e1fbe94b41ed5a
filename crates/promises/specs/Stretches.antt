-- The maximal stretches of the entries that pass a test, as a list of pairs: what such a list is good for, and that
-- a bitmap's spans are one; that they are all: proofs/Stretches.
use Rattle.std.specs.Prelude.{◌≡◌, Bool, ◌&&◌, ◌||◌, List, [], ◌∷◌, ltb, leb, length}
use Rattle.std.proofs.Math.Path.{refl, sym}
use Rattle.std.proofs.Common.{ap, ap₂, ◌∙◌, arith}
use Rattle.std.proofs.Math.Bool.{true, false}
use Prim.Native.Nat.{ℕ, zero, suc, ◌+◌, ◌-◌, ◌%◌, ◌≤◌, ◌<◌}
use Rattle.std.proofs.Math.Dec.{eqb}
use borrow.Author.Tests.{le-ltb, le-leb, lt-leb, ltb-true, ltb-false, leb-true, leb-false, eqb-true, eqb-false}
use Rattle.rules.specs.Spans.{selected, spans, covered, misplaced}
use Rattle.spans_list.specs.Turns.{past_n}
use Rattle.spans_mark.specs.Placed.{Placed, first-placed, covered-low}
use Rattle.promises.specs.Pairs.{HasPair, first_of, last_of, next-first, next_last}
use Rattle.promises.specs.Listed.{Listed, All, never, edges-listed}
use Rattle.promises.specs.Listed.Listed.{none, pair}

-- a maximal stretch of selected entries
pub record Stretch (test : ℕ → Bool) (first last : ℕ) : Type 0 where
  pub ordered : first ≤ last
  pub all_selected : (i : ℕ) → first ≤ i → i ≤ last → test i ≡ true
  -- it cannot be made longer at either end
  pub not-before : (i : ℕ) → suc i ≡ first → test i ≡ false
  pub not_behind : test (suc last) ≡ false

-- the list has a pair of these numbers
abbrev pub Lists : List ℕ → ℕ → ℕ → Type 0
Lists list first last = (k : ℕ) × (HasPair list k) × (first_of list k ≡ first) × (last_of list k ≡ last)

-- a list of all maximal stretches
pub record Stretches (test : ℕ → Bool) (list : List ℕ) : Type 0 where
  pub paired : length list % 2 ≡ 0
  -- every pair is a stretch, and every stretch a pair
  pub each_is : (k : ℕ) → HasPair list k → Stretch test (first_of list k) (last_of list k)
  pub every : (first last : ℕ) → Stretch test first last → Lists list first last
  -- ascending, with an entry between two of them: so each stands there once
  pub ascending : (k : ℕ) → HasPair list (suc k) → last_of list k + 1 < first_of list (suc k)

-- ---- what a list of them is good for

module _ (test : ℕ → Bool) where
  -- from one entry on there is one end
  same-last : (first a b : ℕ) → first ≤ a → All test true first (suc a) → test (suc a) ≡ false
      → first ≤ b → All test true first (suc b) → test (suc b) ≡ false → a ≡ b
  same-last first a b h on off m on' off' =
      let not-less : a < b → ⊥ = λ less. never test (suc a) (on' (suc a) (omega arith) (omega arith)) off in
      let not_more : b < a → ⊥ = λ more. never test (suc b) (on (suc b) (omega arith) (omega arith)) off' in
      omega (arith, not-less, not_more)

  module _ (to : ℕ) where
    -- it is well placed
    listed-placed : {from : ℕ} {l : List ℕ} → Listed test to from l → misplaced to from l ≡ false
    unfolding misplaced
    listed-placed (none nothing) = refl
    listed-placed (pair {from = from} {first = first} {last = last} below nothing ordered on behind low rest) =
        rw (le-ltb first from below, le-ltb last first ordered, lt-leb to last low) (listed-placed rest)

    -- from `from` on it covers what passes
    listed-covered : {from : ℕ} {l : List ℕ} → Listed test to from l → (j : ℕ) → from ≤ j → j < to
        → covered l j ≡ test j
    unfolding covered
    listed-covered (none nothing) j h m = sym (nothing j h m)
    listed-covered (pair {first = first} {last = last} {s = s} below nothing ordered on behind low rest) j h m =
        go (λ more. listed-covered rest j more m) (leb first j) refl (leb j last) refl
      where
        -- the entry behind the stretch, and those behind that
        on-from : (last + 2 ≤ j → covered s j ≡ test j) → last < j → (t : Bool) → eqb j (suc last) ≡ t
            → covered s j ≡ test j
        on-from more less true e =
            let next : j ≡ suc last = eqb-true j (suc last) e in
            covered-low to (last + 2) s j (listed-placed rest) (omega arith) ∙ sym (ap test next ∙ behind)
        on-from more less false e = more (omega (arith, eqb-false j (suc last) e))

        go : (last + 2 ≤ j → covered s j ≡ test j) → (a : Bool) → leb first j ≡ a → (b : Bool) → leb j last ≡ b
            → (a && b || covered s j) ≡ test j
        go more false e b f =
            covered-low to (last + 2) s j (listed-placed rest) (omega (arith, leb-false first j e))
            ∙ sym (nothing j h (leb-false first j e))
        go more true e true f = sym (on j (leb-true first j e) (omega (arith, leb-true j last f)))
        go more true e false f = on-from more (leb-false j last f) (eqb j (suc last)) refl

    -- two lists of one test are the same
    listed-unique : {from : ℕ} {l m : List ℕ} → Listed test to from l → Listed test to from m → l ≡ m
    listed-unique (none nothing) (none nothing') = refl
    listed-unique (none nothing) (pair {first = first} below off ordered on behind low rest) =
        absurd (never test first (on first (omega arith) (omega arith)) (nothing first below (omega arith)))
    listed-unique (pair {first = first} below off ordered on behind low rest) (none nothing) =
        absurd (never test first (on first (omega arith) (omega arith)) (nothing first below (omega arith)))
    listed-unique (pair {from = from} {first = f} {last = a} {s = s} below off ordered on behind low rest)
        (pair {first = g} {last = b} {s = t} below' off' ordered' on' behind' low' rest') =
        both (λ (e : a ≡ b). listed-unique rest (rw (← e) at rest'))
      where
        first-is : f ≡ g
        first-is =
            let not-less : f < g → ⊥ = λ less. never test f (on f (omega arith) (omega arith)) (off' f below less) in
            let not_more : g < f → ⊥ = λ more. never test g (on' g (omega arith) (omega arith)) (off g below' more) in
            omega (arith, not-less, not_more)

        last-is : a ≡ b
        last-is = same-last f a b ordered on behind (omega (arith, first-is)) (rw first-is on') behind'

        both : (a ≡ b → s ≡ t) → (f ∷ a ∷ s) ≡ (g ∷ b ∷ t)
        both same = ap₂ ◌∷◌ first-is (ap₂ ◌∷◌ last-is (same last-is))

    -- a pair of it is a stretch, where none is open at `from`
    pub listed-stretch : {from : ℕ} {l : List ℕ} → Listed test to from l → ((i : ℕ) → suc i ≡ from → test i ≡ false)
        → (k : ℕ) → HasPair l k → Stretch test (first_of l k) (last_of l k)
    listed-stretch (none nothing) closed k h = absurd (omega arith)
    listed-stretch (pair {from = from} {first = first} below nothing ordered on behind low rest) closed zero h =
        record {
          ordered = ordered;
          all_selected = λ i h m. on i h (omega arith);
          not-before = λ i e. before i e (leb from i) refl;
          not_behind = behind;
        }
      where
        before : (i : ℕ) → suc i ≡ first → (t : Bool) → leb from i ≡ t → test i ≡ false
        before i e true g = nothing i (leb-true from i g) (omega arith)
        before i e false g = closed i (omega (arith, leb-false from i g))
    listed-stretch (pair {first = first} {last = last} {s = s} below nothing ordered on behind low rest) closed
        (suc k) h =
        rw (next-first first last s k, next_last first last s k)
        (listed-stretch rest (λ i e. let same : i ≡ suc last = omega arith in ap test same ∙ behind) k (omega arith))

    -- and a stretch is a pair of it
    pub stretch-listed : {from : ℕ} {l : List ℕ} → Listed test to from l → (first last : ℕ) → from ≤ first → last < to
        → Stretch test first last → Lists l first last
    stretch-listed (none nothing) first last h m s =
        absurd (never test first (s.all_selected first (omega arith) s.ordered)
        (nothing first h (omega (arith, s.ordered))))
    stretch-listed (pair {first = f} {last = l} {s = list} below nothing ordered on behind low rest) first last h m s =
        go (ltb f first) refl (λ more. stretch-listed rest first last more m s)
      where
        -- it does not begin before the first of the list, nor inside it, nor right behind it
        not-less : first < f → ⊥
        not-less less = never test first (s.all_selected first (omega arith) s.ordered) (nothing first h less)

        further : f < first → l + 2 ≤ first
        further more =
            let up : suc (first - 1) ≡ first = omega arith in
            let not-inside : first - 1 ≤ l → ⊥ =
            λ inside. never test (first - 1) (on (first - 1) (omega arith) (omega arith))
            (s.not-before (first - 1) up) in
            omega (arith, not-inside)

        next : Lists list first last → Lists (f ∷ l ∷ list) first last
        next p = (
          suc p.0,
          omega (arith, p.1),
          next-first f l list p.0 ∙ p.2,
          next_last f l list p.0 ∙ p.3,
        )

        go : (t : Bool) → ltb f first ≡ t → (l + 2 ≤ first → Lists list first last)
            → Lists (f ∷ l ∷ list) first last
        go true e later = next (later (further (ltb-true f first e)))
        go false e later =
            let same : f ≡ first = omega (arith, ltb-false f first e, not-less) in (
              0,
              omega arith,
              same,
              same-last f l last ordered on behind (omega (arith, s.ordered))
                  (λ j p q. s.all_selected j (omega arith) (omega arith)) s.not_behind,
            )

-- a list that is well placed is such a list of every test that passes what it covers, and nothing from n on
placed-listed : (test : ℕ → Bool) (n from : ℕ) (l : List ℕ) → ((j : ℕ) → n ≤ j → test j ≡ false)
    → ((j : ℕ) → from ≤ j → j < n → test j ≡ covered l j) → misplaced n from l ≡ false → length l % 2 ≡ 0
    → Listed test n from l
unfolding covered
placed-listed test n from [] past same e even = none {from = from} same
placed-listed test n from (x ∷ []) past same e even = absurd (omega arith)
placed-listed test n from (first ∷ last ∷ s) past same e even =
    let p = first-placed n from first last s e in
    let low : (j : ℕ) → j < last + 2 → covered s j ≡ false = λ j h. covered-low n (last + 2) s j p.rest h in
    pair {from = from} {first = first} {last = last} {s = s} p.begins_at
    (λ j h m. same j h (omega (arith, p.ordered, p.below)) ∙ rw (lt-leb first j m, low j (omega (arith, p.ordered))))
    p.ordered
    (λ j h m. same j (omega (arith, p.begins_at)) (omega (arith, p.below))
    ∙ rw (le-leb first j h, le-leb j last (omega arith)))
    (behind p low (ltb (suc last) n) refl)
    p.below
    (placed-listed test n (last + 2) s past
    (λ j h m. same j (omega (arith, p.begins_at, p.ordered)) m
    ∙ rw (le-leb first j (omega (arith, p.ordered)), lt-leb j last (omega arith)))
    p.rest (omega arith))
  where
    behind : Placed n from first last s → ((j : ℕ) → j < last + 2 → covered s j ≡ false) → (t : Bool)
        → ltb (suc last) n ≡ t → test (suc last) ≡ false
    behind p low true f =
        same (suc last) (omega (arith, p.begins_at, p.ordered)) (ltb-true (suc last) n f)
        ∙ rw (
          le-leb first (suc last) (omega (arith, p.ordered)),
          lt-leb (suc last) last (omega arith),
          low (suc last) (omega arith),
        )
    behind p low false f = past (suc last) (ltb-false (suc last) n f)

-- ---- the stretches of a bitmap

module _ (bits : List ℕ) (n : ℕ) where
  pub spans-listed : Listed (selected bits n) n 0 (spans bits n)
  unfolding spans
  spans-listed = edges-listed (selected bits n) n (past_n bits n)

  -- as a list they are good, and they cover the entries selected
  pub spans-placed : misplaced n 0 (spans bits n) ≡ false
  spans-placed = listed-placed (selected bits n) n spans-listed

  pub spans_cover : (j : ℕ) → j < n → covered (spans bits n) j ≡ selected bits n j
  spans_cover j h = listed-covered (selected bits n) n spans-listed j (omega arith) h

  -- a good list that covers just them is that list
  pub spans-back : (l : List ℕ) → misplaced n 0 l ≡ false → length l % 2 ≡ 0
      → ((j : ℕ) → j < n → selected bits n j ≡ covered l j) → spans bits n ≡ l
  spans-back l placed even same =
      listed-unique (selected bits n) n spans-listed
      (placed-listed (selected bits n) n 0 l (past_n bits n) (λ j _ h. same j h) placed even)
