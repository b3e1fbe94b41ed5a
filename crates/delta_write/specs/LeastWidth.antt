-- The least width that holds a number, and all numbers of a miniblock.
use Rattle.std.specs.Prelude.{◌≡◌, ℕ, zero, suc, ◌+◌, ◌-◌, ◌*◌, ◌/◌, ◌^◌, ◌<◌, ◌≤◌, Bool, true, false, cond, List, [], ◌∷◌, ◌==◌, nat_le, refl}
use Rattle.std.proofs.Common.{sym, ◌∙◌, pow-suc, lt_of_lt_of_le, arith, pow_mono, eqb-true, leb-true, leb-false}
use Rattle.std.specs.Int.Count.{count_leading_zeros}
use Rattle.std.proofs.lemmas.Nat.{leading_length}
use Rattle.std.proofs.lemmas.Bool.{lt-leb}
use Rattle.rules.specs.Answer.{any_large}
use Rattle.rules.specs.DeltaWriter.{width_of, width_for}
use Rattle.words.specs.Joined.{Small}
use Rattle.packed_entries.specs.NoneTooLarge.{small_of, large_of}

-- ---- of one number

pub width-none : (W : ℕ) → width_of W 0 ≡ 0
unfolding width_of
width-none zero = refl
width-none (suc W) = refl

pub width_le : (W x : ℕ) → width_of W x ≤ W
unfolding width_of
width_le zero x = omega arith
width_le (suc W) x = go (x == 0) (width_le W (x / 2))
  where
    go : (t : Bool) → width_of W (x / 2) ≤ W → cond t 0 (suc (width_of W (x / 2))) ≤ suc W
    go true h = omega arith
    go false h = omega arith

-- it holds the number
pub width_fits : (W x : ℕ) → x < 2 ^ W → x < 2 ^ width_of W x
unfolding width_of
width_fits zero x h = h
width_fits (suc W) x h = go (x == 0) refl (width_fits W (x / 2))
  where
    go : (t : Bool) → (x == 0) ≡ t → (x / 2 < 2 ^ W → x / 2 < 2 ^ width_of W (x / 2))
        → x < 2 ^ cond t 0 (suc (width_of W (x / 2)))
    go true e rest = omega (arith, eqb-true x 0 e)
    go false e rest = omega (arith, rest (omega (arith, pow-suc 2 W)), pow-suc 2 (width_of W (x / 2)))

-- and no width that does is less
pub width-least : (W x k : ℕ) → x < 2 ^ k → width_of W x ≤ k
unfolding width_of
width-least zero x k h = omega arith
width-least (suc W) x zero h =
    let none : x ≡ 0 = omega arith in
    rw none (omega arith)
width-least (suc W) x (suc k) h = go (x == 0) (width-least W (x / 2) k (omega (arith, pow-suc 2 k)))
  where
    go : (t : Bool) → width_of W (x / 2) ≤ k → cond t 0 (suc (width_of W (x / 2))) ≤ suc k
    go true l = omega arith
    go false l = omega arith

-- what the leading zeros leave
pub width_leading : (W x : ℕ) → x < 2 ^ W → W - count_leading_zeros W x ≡ width_of W x
width_leading W x h =
    let m = leading_length W x h in
    let w : ℕ = width_of W x in
    let least : w ≤ m.0 = width-least W x m.0 m.2 in
    go m least (nat_le (suc w) m.0) refl
  where
    go : (m : (m : ℕ) × (count_leading_zeros W x + m ≡ W) × (x < 2 ^ m) × (2 ^ m ≤ 2 * x + 1)) → width_of W x ≤ m.0
        → (t : Bool) → nat_le (suc (width_of W x)) m.0 ≡ t → W - count_leading_zeros W x ≡ width_of W x
    go m l true e =
        absurd
        (omega (
          arith,
          width_fits W x h,
          pow-suc 2 (width_of W x),
          pow_mono {i = suc (width_of W x)} {j = m.0} (leb-true (suc (width_of W x)) m.0 e),
        ))
    go m l false e = omega (arith, leb-false (suc (width_of W x)) m.0 e)

-- ---- of all numbers of a list

pub widths_le : (W : ℕ) (xs : List ℕ) → width_for W xs ≤ W
widths_le W [] = omega arith
widths_le W (x ∷ xs) = omega (arith, width_le W x, widths_le W xs)

-- it holds them all
pub widths_hold : (W : ℕ) (xs : List ℕ) → Small W xs → Small (width_for W xs) xs
widths_hold W [] h k = omega arith
widths_hold W (x ∷ xs) h zero =
    lt_of_lt_of_le (width_fits W x (h 0)) (pow_mono {i = width_of W x} {j = width_for W (x ∷ xs)} (omega arith))
widths_hold W (x ∷ xs) h (suc k) =
    lt_of_lt_of_le (widths_hold W xs (λ i. h (suc i)) k)
    (pow_mono {i = width_for W xs} {j = width_for W (x ∷ xs)} (omega arith))

pub widths-least : (W k : ℕ) (xs : List ℕ) → Small k xs → width_for W xs ≤ k
widths-least W k [] h = omega arith
widths-least W k (x ∷ xs) h = omega (arith, width-least W x k (h 0), widths-least W k xs (λ i. h (suc i)))

-- a number that reaches the same powers of 2 as some number of the list has the list's width
pub width_together : (W all : ℕ) (xs : List ℕ) → all < 2 ^ W → ((w : ℕ) → nat_le (2 ^ w) all ≡ any_large w xs)
    → width_of W all ≡ width_for W xs
width_together W all xs h same =
    let small : Small W xs = small_of W xs (sym (same W) ∙ lt-leb (2 ^ W) all h) in
    let held : all < 2 ^ width_for W xs =
    leb-false (2 ^ width_for W xs) all (same (width_for W xs) ∙ large_of (width_for W xs) xs (widths_hold W xs small)) in
    let fits : Small (width_of W all) xs =
    small_of (width_of W all) xs (sym (same (width_of W all)) ∙ lt-leb (2 ^ width_of W all) all (width_fits W all h)) in
    omega (arith, width-least W all (width_for W xs) held, widths-least W (width_of W all) xs fits)
