-- Before the first plane: a constant outside 0 to 2^w - 1 leaves no lane undecided, and one within leaves all.
use Rattle.std.specs.Prelude.{◌≡◌, refl, Bool, cond, List, [], ℕ, ◌-◌, ◌/◌, ◌^◌, ◌<◌, T, ltb, ℤ, pos, negsuc, nat_abs}
use Rattle.std.proofs.Common.{sym, ap₂, ◌∙◌, true≢false, arith, pow_pos}
use Rattle.std.proofs.Math.Bool.{true, false, and-false}
use Rattle.std.proofs.Math.Nat.{mod-lt, sub-zero}
use Rattle.std.proofs.Math.Dec.{eqb}
use Rattle.std.proofs.Math.Pow.{split}
use Rattle.std.specs.Int.Signed.{lt_z, mag, non_neg}
use borrow.Author.Tests.{lt-ltb, ne_eqb, ltb-true}
use Rattle.rules.specs.Bits.{word}
use Rattle.rules.specs.Planes.{undecided}
use Rattle.rules.specs.Vertical.{lane}
use Rattle.words.specs.Bits.{word-ext}
use Rattle.vertical_planes.specs.Ends.{below}
use Rattle.vertical_planes.specs.Words.{all_lanes}
use Rattle.vertical_planes.specs.declared.ends.End.{End}

-- it does not matter which planes are to come
pub undecided_any : (planes : List ℕ) (w : ℕ) (z : ℤ) (j : ℕ)
    → undecided [] w 0 z j ≡ undecided planes w 0 z j
unfolding undecided lane
undecided_any planes w (pos c) j = refl
undecided_any planes w (negsuc c) j = refl

pub below_any : (planes : List ℕ) (w : ℕ) (z : ℤ) (j : ℕ) → below [] w 0 z j ≡ below planes w 0 z j
unfolding below lane
below_any planes w z j = refl

-- and every lane stands as the first does
pub undecided-same : (planes : List ℕ) (w : ℕ) (z : ℤ) (j k : ℕ)
    → undecided planes w 0 z j ≡ undecided planes w 0 z k
unfolding undecided lane
undecided-same planes w (pos c) j k = refl
undecided-same planes w (negsuc c) j k = refl

-- a constant that is not negative is as large as its bits say
pub whole : (z : ℤ) (b : ℕ) → lt_z z (pos 0) ≡ false → mag z < b → T (non_neg z) × (nat_abs z < b)
whole (pos c) b e h = (tt, h)
whole (negsuc c) b e h = absurd (true≢false e)

-- all lanes against one end: it is negative, within 0 to 2^w - 1, or above
module _ (w : ℕ) where
  abbrev Starts : ℤ → Bool → Bool → Type 0
  Starts z s t =
      ◌≡◌ {A = End} (record { less = cond s (2 ^ 64 - 1) 0; undecided = cond t (2 ^ 64 - 1) 0 })
      (record { less = word 64 (below [] w 0 z); undecided = word 64 (undecided [] w 0 z) })

  starts : (z : ℤ) (s t : Bool) → ((j : ℕ) → below [] w 0 z j ≡ s) → ((j : ℕ) → undecided [] w 0 z j ≡ t)
      → Starts z s t
  starts z s t b u =
      ap₂ (λ (x y : ℕ). record { less = x; undecided = y }) (all_lanes s ∙ word-ext 64 (λ j _. sym (b j)))
      (all_lanes t ∙ word-ext 64 (λ j _. sym (u j)))

  pub start_below : (z : ℤ) → lt_z z (pos 0) ≡ true → Starts z false false
  unfolding below undecided
  start_below (pos c) e = absurd (omega (arith, ltb-true c 0 e))
  start_below (negsuc c) e = starts (negsuc c) false false (λ j. refl) (λ j. refl)

  pub start_within : (z : ℤ) → lt_z z (pos 0) ≡ false → nat_abs z / 2 ^ w ≡ 0 → Starts z false true
  unfolding below undecided lane
  start_within (pos c) e f =
      let small : c < 2 ^ w = omega (arith, rw f at (split c w), mod-lt c (pow_pos w)) in
      starts (pos c) false true (λ j. rw (sub-zero w, f)) (λ j. rw (sub-zero w, f, lt-ltb c (2 ^ w) small))
  start_within (negsuc c) e f = absurd (true≢false e)

  pub start_above : (z : ℤ) → lt_z z (pos 0) ≡ false → (nat_abs z / 2 ^ w ≡ 0 → ⊥) → Starts z true false
  unfolding below undecided lane
  start_above (pos c) e f =
      let other : eqb 0 (c / 2 ^ w) ≡ false = ne_eqb 0 (c / 2 ^ w) (λ k. f (sym k)) in
      starts (pos c) true false (λ j. rw (sub-zero w) (lt-ltb 0 (c / 2 ^ w) (omega arith)))
      (λ j. rw (sub-zero w, other) (and-false (ltb c (2 ^ w))))
  start_above (negsuc c) e f = absurd (true≢false e)
