-- One group there and back: the lanes of its planes are its entries, and the planes of its lanes are its planes.
use Rattle.std.specs.Prelude.{◌≡◌, refl, Bool, true, false, List, ℕ, ◌+◌, ◌-◌, ◌*◌, ◌^◌, ◌≤◌, ◌<◌, ltb, get_or}
use Rattle.std.proofs.Common.{sym, ap, ◌∙◌, arith, ltb-true, ltb-false}
use Rattle.std.proofs.Math.ListN.{get_or-eq_default}
use Rattle.rules.specs.Bits.{bit, tabulate}
use Rattle.rules.specs.Vertical.{lane, plane}
use Rattle.words.specs.Bits.{ext}
use Rattle.words.specs.Joined.{Small}
use Rattle.words.specs.Tabulated.{length-tabulate, get_or-tabulate}
use Rattle.vertical_compare.specs.Lanes.{lane_lt, bit-lane}
use Rattle.vertical_turn.specs.Planes.{plane_lt, bit-plane}

-- ---- words from `at` on, and the entries of group g

module _ (words xs : List ℕ) (at w g : ℕ) where
  -- words that are the group's planes have its entries as their lanes
  pub lane_planes : (j : ℕ) → Small w xs → j < 64 → ((k : ℕ) → k < w → get_or words (at + k) 0 ≡ plane w xs g k)
      → lane words at w j ≡ get_or xs (64 * g + j) 0
  lane_planes j small h planes = ext w (lane_lt words at w j) (small (64 * g + j)) same
    where
      same : (k : ℕ) → k < w → bit (lane words at w j) k ≡ bit (get_or xs (64 * g + j) 0) k
      same k l =
          let back : w - 1 - (w - 1 - k) ≡ k = omega arith in
          bit-lane words at w j k l ∙ ap (λ (p : ℕ). bit p j) (planes (w - 1 - k) (omega arith))
          ∙ bit-plane w xs g (w - 1 - k) j h
          ∙ ap (bit (get_or xs (64 * g + j) 0)) back

  -- entries that are the words' lanes have these words as their planes
  pub plane_lanes : (k : ℕ) → k < w → get_or words (at + k) 0 < 2 ^ 64
      → ((j : ℕ) → j < 64 → get_or xs (64 * g + j) 0 ≡ lane words at w j)
      → plane w xs g k ≡ get_or words (at + k) 0
  plane_lanes k h small lanes = ext 64 (plane_lt w xs g k) small same
    where
      same : (j : ℕ) → j < 64 → bit (plane w xs g k) j ≡ bit (get_or words (at + k) 0) j
      same j l =
          let back : w - 1 - (w - 1 - k) ≡ k = omega arith in
          bit-plane w xs g k j l ∙ ap (λ (x : ℕ). bit x (w - 1 - k)) (lanes j l)
          ∙ bit-lane words at w j (w - 1 - k) (omega arith)
          ∙ ap (λ (i : ℕ). bit (get_or words (at + i) 0) j) back

-- what is tabulated, and 0 past it, is f where f is 0 there
pub get_or-tabulate-zero : (m : ℕ) (f : ℕ → ℕ) (j : ℕ) → (m ≤ j → f j ≡ 0) → get_or (tabulate m f) j 0 ≡ f j
get_or-tabulate-zero m f j none = go (ltb j m) refl
  where
    go : (t : Bool) → ltb j m ≡ t → get_or (tabulate m f) j 0 ≡ f j
    go true e = get_or-tabulate m f j 0 (ltb-true j m e)
    go false e =
        let past : m ≤ j = ltb-false j m e in
        get_or-eq_default (tabulate m f) 0 {n = j} (omega (arith, length-tabulate m f)) ∙ sym (none past)

-- ---- a group by itself
