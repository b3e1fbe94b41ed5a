-- A list of pairs that is well placed.
use Rattle.std.specs.Prelude.{◌≡◌, refl, Bool, true, false, ◌||◌, List, [], ◌∷◌, ℕ, ◌+◌, ◌≤◌, ◌<◌, ltb, leb}
use Rattle.std.proofs.Common.{true≢false, arith, ltb-false, leb-false}
use Rattle.std.proofs.lemmas.Bool.{lt-leb}
use Rattle.rules.specs.Spans.{covered, misplaced}

-- what is known of its first pair
pub record Placed (n from first last : ℕ) (s : List ℕ) : Type 0 where
  pub begins_at : from ≤ first
  pub ordered : first ≤ last
  pub below : last < n
  pub rest : misplaced n (last + 2) s ≡ false

pub first-placed : (n from first last : ℕ) (s : List ℕ) → misplaced n from (first ∷ last ∷ s) ≡ false
    → Placed n from first last s
unfolding misplaced
first-placed n from first last s = go (ltb first from) refl (ltb last first) refl (leb n last) refl
  where
    go : (a : Bool) → ltb first from ≡ a → (b : Bool) → ltb last first ≡ b → (c : Bool) → leb n last ≡ c → a || b || c
        || misplaced n (last + 2) s ≡ false → Placed n from first last s
    go true e b f c g h = absurd (true≢false h)
    go false e true f c g h = absurd (true≢false h)
    go false e false f true g h = absurd (true≢false h)
    go false e false f false g h =
        record { begins_at = ltb-false first from e; ordered = ltb-false last first f; below = leb-false n last g; rest = h }

-- it covers nothing below the least number that may stand in it
pub covered-low : (n from : ℕ) (l : List ℕ) (j : ℕ) → misplaced n from l ≡ false → j < from → covered l j ≡ false
unfolding covered
covered-low n from [] j e h = refl
covered-low n from (x ∷ []) j e h = refl
covered-low n from (first ∷ last ∷ s) j e h =
    let p = first-placed n from first last s e in
    rw (lt-leb first j (omega (arith, p.begins_at)))
    (covered-low n (last + 2) s j p.rest (omega (arith, p.begins_at, p.ordered)))
