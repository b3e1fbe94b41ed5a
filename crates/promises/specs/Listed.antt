-- The stretches of a test from an entry on, pair by pair: `edges` lists them.
use Rattle.std.specs.Prelude.{◌≡◌, Bool, eqb}
use Rattle.std.proofs.Math.Path.{refl}
use Rattle.std.proofs.Common.{sym, ap, ◌∙◌, true≢false, arith, eqb-true}
use Rattle.std.proofs.Math.Bool.{true, false}
use mathlib.Core.List.{List, [], ◌∷◌}
use Prim.Native.Nat.{ℕ, zero, suc, ◌+◌, ◌≤◌, ◌<◌}
use Rattle.std.proofs.lemmas.Bool.{eqb-false}
use Rattle.rules.specs.Spans.{begins, ends, noted, edges}

-- all entries from a on, below b, pass, or none of them
abbrev pub All : (ℕ → Bool) → Bool → ℕ → ℕ → Type 0
All test t a b = (j : ℕ) → a ≤ j → j < b → test j ≡ t

-- pairs with what is known of each; nothing between them is selected, nor behind them below `to`
pub data Listed (test : ℕ → Bool) (to : ℕ) : ℕ → List ℕ → Type 0 where
  none : {from : ℕ} → All test false from to → Listed test to from []
  pair : {from first last : ℕ} {s : List ℕ} → from ≤ first → All test false from first → first ≤ last
      → All test true first (suc last) → test (suc last) ≡ false → last < to → Listed test to (last + 2) s
      → Listed test to from (first ∷ last ∷ s)

module _ (test : ℕ → Bool) where
  -- an entry more in front
  all_more : (t : Bool) (i b : ℕ) → test i ≡ t → All test t (suc i) b → All test t i b
  all_more t i b first rest j h m = go (eqb j i) refl
    where
      go : (same : Bool) → eqb j i ≡ same → test j ≡ t
      go true e = ap test (eqb-true j i e) ∙ first
      go false e = rest j (omega (arith, eqb-false j i e)) m

  -- an entry is selected or it is not
  pub never : (j : ℕ) → test j ≡ true → test j ≡ false → ⊥
  never j on off = true≢false (sym on ∙ off)

  module _ (to : ℕ) where
    -- an entry earlier, which is not selected
    earlier : (i : ℕ) (l : List ℕ) → test i ≡ false → Listed test to (suc i) l → Listed test to i l
    earlier i l off (none nothing) = none {from = i} (all_more false i to off nothing)
    earlier i l off (pair {first = first} below nothing ordered on behind low rest) =
        pair {from = i} {first = first} (omega arith) (all_more false i first off nothing) ordered on behind low rest

    -- an entry later, where that one is not selected
    later : (i : ℕ) (l : List ℕ) → test i ≡ false → Listed test to i l → Listed test to (suc i) l
    later i l off (none nothing) = none {from = suc i} (λ j h m. nothing j (omega arith) m)
    later i l off (pair {first = first} below nothing ordered on behind low rest) =
        let not_first : first ≡ i → ⊥ = λ e. never first (on first (omega arith) (omega arith)) (ap test e ∙ off) in
        pair {from = suc i} {first = first} (omega (arith, not_first)) (λ j h m. nothing j (omega arith) m) ordered on
        behind low rest

    -- an entry earlier, with which the first stretch begins
    longer : (i : ℕ) (l : List ℕ) → test i ≡ true → Listed test to (suc i) (suc i ∷ l) → Listed test to i (i ∷ l)
    longer i l on (pair {last = last} {s = s} below nothing ordered rest-on behind low rest) =
        pair {from = i} {first = i} {last = last} {s = s} (omega arith) (λ j h m. absurd (omega arith)) (omega arith)
        (all_more true i (suc last) on rest-on) behind low rest

    -- a stretch of one entry in front
    single : (i : ℕ) (l : List ℕ) → test i ≡ true → test (suc i) ≡ false → i < to → Listed test to (suc i) l
        → Listed test to i (i ∷ i ∷ l)
    single i l on off low rest =
        let two : i + 2 ≡ suc (suc i) = omega arith in
        let itself : All test true i (suc i) = λ j h m. let same : j ≡ i = omega arith in ap test same ∙ on in
        pair {from = i} {first = i} {last = i} {s = l} (omega arith) (λ j h m. absurd (omega arith)) (omega arith)
        itself off low (rw two (later (suc i) l off rest))

    -- of entries i to i + k, where it is not looked whether the one in front of them is selected
    abbrev cut : ℕ → ℕ → List ℕ
    cut k i = noted (test i) i (noted (ends test i) i (edges k (suc i) test))

    cut-listed : (k i : ℕ) → i + suc k ≡ to → ((j : ℕ) → to ≤ j → test j ≡ false) → Listed test to i (cut k i)
    unfolding edges begins ends
    cut-listed zero i all past = go (test i) refl (none {from = suc i} (λ j h m. absurd (omega arith)))
      where
        go : (t : Bool) → test i ≡ t → Listed test to (suc i) [] → Listed test to i (cut zero i)
        go true on rest =
            let off : test (suc i) ≡ false = past (suc i) (omega arith) in
            rw (on, off) (single i [] on off (omega arith) rest)
        go false off rest = rw off (earlier i [] off rest)
    cut-listed (suc k) i all past =
        go (cut-listed k (suc i) (omega arith) past) (test i) refl (test (suc i)) refl
      where
        go : Listed test to (suc i) (cut k (suc i)) → (s : Bool) → test i ≡ s → (t : Bool) → test (suc i) ≡ t
            → Listed test to i (cut (suc k) i)
        go rest false off true on = rw (off, on) (earlier i _ off (rw on at rest))
        go rest false off false off' = rw (off, off') (earlier i _ off (rw off' at rest))
        go rest true on false off = rw (on, off) (single i _ on off (omega arith) (rw off at rest))
        go rest true on true on' = rw (on, on') (longer i _ on (rw on' at rest))

  -- all that pass lie below `to`
  pub edges-listed : (to : ℕ) → ((j : ℕ) → to ≤ j → test j ≡ false) → Listed test to 0 (edges to 0 test)
  unfolding edges begins
  edges-listed zero past = none {from = 0} (λ j h m. absurd (omega arith))
  edges-listed (suc k) past = cut-listed (suc k) k 0 (omega arith) past
