-- One plane more keeps an end true to the planes taken.
use Rattle.std.specs.Prelude.{◌≡◌, Bool, List, ℕ, suc, ◌+◌, ◌-◌, ◌*◌, ◌/◌, ◌%◌, ◌^◌, ◌<◌, ℤ, pos, negsuc, get_or}
use Rattle.std.proofs.Math.Path.{refl}
use Rattle.std.proofs.Common.{sym, ap, ◌∙◌, lt_of_le_of_lt, zero-add, add-one, arith, shr-shr}
use Rattle.std.proofs.Math.Bool.{true, false}
use Rattle.std.specs.Int.Bits.{bit_and, bit_or, and_zero_l}
use Rattle.std.proofs.lemmas.Nat.{and_le_l, or_lt}
use Rattle.std.proofs.Math.Dec.{ltb, eqb}
use borrow.Author.Tests.{eqb-true, eqb-false}
use Rattle.rules.specs.Bits.{bit, word}
use Rattle.rules.specs.Vertical.{lane}
use Rattle.words.specs.Bits.{bit_lt, bit_and_lem, bit_or_lem, bit_not, bit_of_zero, bit_word, word_of, word_lt, word_none}
use Rattle.vertical_compare.specs.Ends.{end_of, end_at, stepped}
use Rattle.vertical_compare.specs.BinaryDigits.{Digit, digit}
use Rattle.vertical_compare.specs.declared.ends.End.{End}

-- the lanes x with a bit of the plane p behind each, against y
module _ (n : ℕ) (x : ℕ → ℕ) (p y : ℕ) (small : p < 2 ^ n) where
  abbrev below : ℕ
  below = word n (λ j. ltb (x j) (y / 2))

  abbrev equal : ℕ
  equal = word n (λ j. eqb (x j) (y / 2))

  next : (j : ℕ) → Digit (x j) y (bit p j)
  next j = digit (x j) y (bit p j) (bit_lt p j)

  and-small : (q : ℕ) → bit_and equal q < 2 ^ n
  and-small q = lt_of_le_of_lt (and_le_l equal q) (word_lt n (λ j. eqb (x j) (y / 2)))

  less_one : y % 2 ≡ 1 → bit_or below (bit_and equal (2 ^ n - 1 - p)) ≡ word n (λ j. ltb (x j * 2 + bit p j) y)
  less_one odd =
      word_of n _ (or_lt n _ _ (word_lt n (λ j. ltb (x j) (y / 2))) (and-small (2 ^ n - 1 - p)))
      (λ j l. rw (bit_or_lem, bit_and_lem, bit_not n j small l, bit_word n _ j l, bit_word n _ j l) ((next j).0 odd).0)

  same-one : y % 2 ≡ 1 → bit_and equal p ≡ word n (λ j. eqb (x j * 2 + bit p j) y)
  same-one odd = word_of n _ (and-small p) (λ j l. rw (bit_and_lem, bit_word n _ j l) ((next j).0 odd).1)

  less_zero : y % 2 ≡ 0 → below ≡ word n (λ j. ltb (x j * 2 + bit p j) y)
  less_zero even = word_of n _ (word_lt n _) (λ j l. rw (bit_word n _ j l) ((next j).1 even).0)

  same-zero : y % 2 ≡ 0 → bit_and equal (2 ^ n - 1 - p) ≡ word n (λ j. eqb (x j * 2 + bit p j) y)
  same-zero even =
      word_of n _ (and-small (2 ^ n - 1 - p))
      (λ j l. rw (bit_and_lem, bit_not n j small l, bit_word n _ j l) ((next j).1 even).1)

  step_both : (c left : ℕ) → y ≡ c / 2 ^ left
      → stepped n (end_of c below equal) p left
      ≡ end_of c (word n (λ j. ltb (x j * 2 + bit p j) y)) (word n (λ j. eqb (x j * 2 + bit p j) y))
  unfolding stepped bit
  step_both c left e = go (eqb (y % 2) 1) refl
    where
      go : (t : Bool) → eqb (y % 2) 1 ≡ t
          → stepped n (end_of c below equal) p left
          ≡ end_of c (word n (λ j. ltb (x j * 2 + bit p j) y)) (word n (λ j. eqb (x j * 2 + bit p j) y))
      go true f = let odd : y % 2 ≡ 1 = eqb-true (y % 2) 1 f in rw (← e, f, less_one odd, same-one odd)
      go false f =
          let even : y % 2 ≡ 0 = omega (arith, eqb-false (y % 2) 1 f) in rw (← e, f, less_zero even, same-zero even)

-- a negative constant stays decided
step-none : (n p left : ℕ) → stepped n (end_of 0 0 0) p left ≡ end_of 0 0 0
unfolding stepped
step-none n p left = rw (bit_of_zero left, and_zero_l (2 ^ n - 1 - p))

-- after i planes, and after the next
pub end-next : (n : ℕ) (planes : List ℕ) (i left : ℕ) (z : ℤ) → get_or planes i 0 < 2 ^ n
    → stepped n (end_at n planes i (suc left) z) (get_or planes i 0) left ≡ end_at n planes (suc i) left z
unfolding end_at lane
end-next n planes i left (pos c) small =
    let half : c / 2 ^ suc left ≡ c / 2 ^ left / 2 =
    ap (λ (k : ℕ). c / 2 ^ k) (sym (add-one left)) ∙ sym (shr-shr c left 1) in
    rw half (step_both n (lane planes 0 i) (get_or planes i 0) (c / 2 ^ left) small c left refl ∙ rw (zero-add i))
end-next n planes i left (negsuc c) small = rw (word_none n) (step-none n (get_or planes i 0) left)

-- a turn of a loop that counts the planes to come down
pub end-turn : (n : ℕ) (planes : List ℕ) (i left : ℕ) (z : ℤ) (end : End) → 0 < left → get_or planes i 0 < 2 ^ n
    → end ≡ end_at n planes i left z → stepped n end (get_or planes i 0) (left - 1) ≡ end_at n planes (i + 1) (left - 1) z
end-turn n planes i left z end some small e =
    let more : left ≡ suc (left - 1) = omega arith in
    rw (e, add-one i)
    (ap (λ (k : ℕ). stepped n (end_at n planes i k z) (get_or planes i 0) (left - 1)) more
    ∙ end-next n planes i (left - 1) z small)
