-- Before the first plane: a constant outside 0 to 2^w - 1 leaves no lane undecided, and one within leaves all.
use Rattle.std.specs.Prelude.{◌≡◌, refl, List, [], ℕ, ◌-◌, ◌/◌, ◌^◌, ◌<◌, T, ℤ, pos, negsuc, nat_abs}
use Rattle.std.proofs.Common.{sym, true≢false, arith}
use Rattle.std.proofs.Math.Bool.{true, false}
use Rattle.std.proofs.Math.Dec.{ltb, eqb}
use Rattle.std.specs.Int.Signed.{lt_z, mag, non_neg}
use borrow.Author.Tests.{lt-ltb, ne_eqb, ltb-true}
use Rattle.rules.specs.Vertical.{lane}
use Rattle.words.specs.Bits.{word_none, word_all}
use Rattle.vertical_compare.specs.Ends.{end_of, end_at}

-- a constant that is not negative is as large as its bits say
pub whole : (z : ℤ) (b : ℕ) → lt_z z (pos 0) ≡ false → mag z < b → T (non_neg z) × (nat_abs z < b)
whole (pos c) b e h = (tt, h)
whole (negsuc c) b e h = absurd (true≢false e)

-- it does not matter which planes are to come
pub any_planes : (n : ℕ) (planes : List ℕ) (w : ℕ) (z : ℤ) → end_at n [] 0 w z ≡ end_at n planes 0 w z
unfolding end_at lane
any_planes n planes w z = refl

module _ (n : ℕ) (planes : List ℕ) (w : ℕ) where
  pub start_below : (z : ℤ) → lt_z z (pos 0) ≡ true → end_of 0 0 0 ≡ end_at n planes 0 w z
  unfolding end_at
  start_below (pos c) e = absurd (omega (arith, ltb-true c 0 e))
  start_below (negsuc c) e = rw (word_none n)

  pub start_within : (z : ℤ) → lt_z z (pos 0) ≡ false → nat_abs z / 2 ^ w ≡ 0
      → end_of (nat_abs z) 0 (2 ^ n - 1) ≡ end_at n planes 0 w z
  unfolding end_at lane
  start_within (pos c) e f = rw (f, word_none n, word_all n)
  start_within (negsuc c) e f = absurd (true≢false e)

  pub start_above : (z : ℤ) → lt_z z (pos 0) ≡ false → (nat_abs z / 2 ^ w ≡ 0 → ⊥)
      → end_of (nat_abs z) (2 ^ n - 1) 0 ≡ end_at n planes 0 w z
  unfolding end_at lane
  start_above (pos c) e f =
      let some : ltb 0 (c / 2 ^ w) ≡ true = lt-ltb 0 (c / 2 ^ w) (omega arith) in
      let other : eqb 0 (c / 2 ^ w) ≡ false = ne_eqb 0 (c / 2 ^ w) (λ k. f (sym k)) in
      rw (some, other, word_none n, word_all n)
  start_above (negsuc c) e f = absurd (true≢false e)
