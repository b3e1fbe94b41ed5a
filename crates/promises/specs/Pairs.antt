-- A list of pairs, first and last number, lying flat: pair by pair, when it is well placed and which entries it covers;
-- the first as one law: proofs/Pairs.
use Rattle.std.specs.Prelude.{◌≡◌, refl, Bool, true, false, ◌&&◌, ◌||◌, List, [], ◌∷◌, ◌↔◌, ℕ, zero, suc, ◌+◌, ◌*◌, ◌≤◌, ◌<◌, leb, length, get_or}
use Rattle.std.proofs.Common.{sym, true≢false, arith, le-ltb, le-leb, leb-true}
use Rattle.std.proofs.lemmas.Bool.{lt-leb}
use Rattle.rules.specs.Spans.{covered, misplaced}
use Rattle.spans_mark.specs.Placed.{first-placed}

-- pair k is there, both its numbers, and which they are
abbrev pub HasPair : List ℕ → ℕ → Type 0
HasPair list k = 2 * k + 1 < length list

abbrev pub first_of : List ℕ → ℕ → ℕ
first_of list k = get_or list (2 * k) 0

abbrev pub last_of : List ℕ → ℕ → ℕ
last_of list k = get_or list (2 * k + 1) 0

-- ascending with a gap of at least one entry, no end before its start, none that reaches the entry count
pub record Ascends (n : ℕ) (list : List ℕ) : Type 0 where
  pub gap : (k : ℕ) → HasPair list (suc k) → last_of list k + 1 < first_of list (suc k)
  pub start_first : (k : ℕ) → HasPair list k → first_of list k ≤ last_of list k
  pub below-count : (k : ℕ) → HasPair list k → last_of list k < n

-- entry i lies in one of the stretches
abbrev pub Within : List ℕ → ℕ → Type 0
Within list i = (k : ℕ) × (HasPair list k) × (first_of list k ≤ i) × (i ≤ last_of list k)

-- ---- pairs behind the first

module _ (first last : ℕ) (s : List ℕ) (k : ℕ) where
  pub next-first : first_of (first ∷ last ∷ s) (suc k) ≡ first_of s k
  next-first = let e : 2 * suc k ≡ suc (suc (2 * k)) = omega arith in rw e

  pub next_last : last_of (first ∷ last ∷ s) (suc k) ≡ last_of s k
  next_last = let e : 2 * suc k + 1 ≡ suc (suc (2 * k + 1)) = omega arith in rw e

-- ---- 18 is not given just where the list ascends

-- and where its first number may lie
abbrev Starts : ℕ → List ℕ → Type 0
Starts from list = HasPair list 0 → from ≤ first_of list 0

no_pair : (n from : ℕ) (list : List ℕ) → length list ≤ 1 → Ascends n list × Starts from list
no_pair n from list few = (
  record {
    gap = λ k h. absurd (omega arith);
    start_first = λ k h. absurd (omega arith);
    below-count = λ k h. absurd (omega arith);
  },
  λ h. absurd (omega arith),
)

pub placed-ascends : (n from : ℕ) (list : List ℕ) → misplaced n from list ≡ false → Ascends n list × Starts from list
placed-ascends n from [] e = no_pair n from [] (omega arith)
placed-ascends n from (x ∷ []) e = no_pair n from (x ∷ []) (omega arith)
placed-ascends n from (first ∷ last ∷ s) e =
    let p = first-placed n from first last s e in
    go p.begins_at p.ordered p.below (placed-ascends n (last + 2) s p.rest)
  where
    list : List ℕ
    list = first ∷ last ∷ s

    go : from ≤ first → first ≤ last → last < n → Ascends n s × Starts (last + 2) s
        → Ascends n list × Starts from list
    go b o l rest = (record { gap = apart; start_first = start; below-count = below }, λ h. b)
      where
        apart : (k : ℕ) → HasPair list (suc k) → last_of list k + 1 < first_of list (suc k)
        apart zero h = omega (arith, rest.1 (omega arith))
        apart (suc k) h = rw (next_last first last s k, next-first first last s (suc k)) (rest.0.gap k (omega arith))

        start : (k : ℕ) → HasPair list k → first_of list k ≤ last_of list k
        start zero h = o
        start (suc k) h =
            rw (next-first first last s k, next_last first last s k) (rest.0.start_first k (omega arith))

        below : (k : ℕ) → HasPair list k → last_of list k < n
        below zero h = l
        below (suc k) h = rw (next_last first last s k) (rest.0.below-count k (omega arith))

pub ascends-placed : (n from : ℕ) (list : List ℕ) → Ascends n list → Starts from list → misplaced n from list ≡ false
unfolding misplaced
ascends-placed n from [] a b = refl
ascends-placed n from (x ∷ []) a b = refl
ascends-placed n from (first ∷ last ∷ s) a b =
    rw (
      le-ltb first from (b (omega arith)),
      le-ltb last first (a.start_first 0 (omega arith)),
      lt-leb n last (a.below-count 0 (omega arith)),
    )
    (ascends-placed n (last + 2) s
    (record {
      gap = λ k h. rw (next_last first last s k, next-first first last s (suc k)) at (a.gap (suc k) (omega arith));
      start_first =
          λ k h. rw (next-first first last s k, next_last first last s k) at (a.start_first (suc k) (omega arith));
      below-count = λ k h. rw (next_last first last s k) at (a.below-count (suc k) (omega arith));
    })
    (λ h. let g : last + 1 < get_or s 0 0 = a.gap 0 (omega arith) in omega arith))

-- ---- the entries that a list covers are those in its stretches

covered-within : (list : List ℕ) (i : ℕ) → covered list i ≡ true → Within list i
unfolding covered
covered-within [] i e = absurd (true≢false (sym e))
covered-within (x ∷ []) i e = absurd (true≢false (sym e))
covered-within (first ∷ last ∷ s) i e = go (covered-within s i) (leb first i) refl (leb i last) refl e
  where
    later : Within s i → Within (first ∷ last ∷ s) i
    later w = (
      suc w.0,
      omega (arith, w.1),
      rw (next-first first last s w.0) w.2,
      rw (next_last first last s w.0) w.3,
    )

    go : (covered s i ≡ true → Within s i) → (a : Bool) → leb first i ≡ a → (b : Bool) → leb i last ≡ b
        → (a && b || covered s i) ≡ true → Within (first ∷ last ∷ s) i
    go rest true f true g h = (0, omega arith, leb-true first i f, leb-true i last g)
    go rest true f false g h = later (rest h)
    go rest false f b g h = later (rest h)

within-covered : (list : List ℕ) (i : ℕ) → Within list i → covered list i ≡ true
unfolding covered
within-covered [] i w = absurd (omega (arith, w.1))
within-covered (x ∷ []) i w = absurd (omega (arith, w.1))
within-covered (first ∷ last ∷ s) i (zero, h, f, l) = rw (le-leb first i f, le-leb i last l)
within-covered (first ∷ last ∷ s) i (suc k, h, f, l) =
    rw (within-covered s i
    (k, omega arith, rw (next-first first last s k) at f, rw (next_last first last s k) at l))
    (or-true (leb first i && leb i last))
  where
    or-true : (t : Bool) → (t || true) ≡ true
    or-true true = refl
    or-true false = refl

pub covered-exact : (list : List ℕ) (i : ℕ) → covered list i ≡ true ↔ Within list i
covered-exact list i = (covered-within list i, within-covered list i)
