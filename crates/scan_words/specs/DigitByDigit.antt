-- A number of digits kept within 64 bits, digit by digit, is the number that they spell, or none.
use Rattle.std.specs.Prelude.{◌≡◌, Bool, true, false, cond, ◌&&◌, List, [], ◌∷◌, ℕ, suc, ◌+◌, ◌-◌, ◌*◌, ◌^◌, ◌<◌, ◌≤◌, ltb, leb, length, drop, get_or, Some, None, refl}
use Rattle.std.proofs.Common.{sym, Option, option_and_then, arith, add-one, drop-cons, drop_of_length-le, length-drop, take, take_all}
use borrow.Author.Tests.{ltb-true, ltb-false, leb-true, lt-ltb, le-ltb, ne_eqb}
use Rattle.scan_words.specs.Numbers.{is_digit, onward, spelled, counted, at_most, below, within, kept, further}

-- from 2^63 + 2 on digits spell no number that is kept
high : (m : ℕ) (word : List ℕ) → 9223372036854775810 ≤ m → option_and_then within (onward m word) ≡ None
unfolding onward
high m [] h = rw (le-ltb m 9223372036854775810 h) refl
high m (b ∷ word) h = by-digit (is_digit b) (high (m * 10 + (b - 48)) word (omega arith))
  where
    by-digit : (t : Bool) → option_and_then within (onward (m * 10 + (b - 48)) word) ≡ None
        → option_and_then within (cond t (onward (m * 10 + (b - 48)) word) None) ≡ None
    by-digit true e = e
    by-digit false e = refl

-- one digit more, and the digits behind it
step : (m b : ℕ) (word : List ℕ)
    → option_and_then within (onward m (b ∷ word))
    ≡ option_and_then (λ n. option_and_then within (onward n word)) (further m b)
unfolding onward further
step m b word = go (ltb 922337203685477580 m) (is_digit b) refl
  where
    go : (full digit : Bool) → ltb 922337203685477580 m ≡ full
        → option_and_then within (cond digit (onward (m * 10 + (b - 48)) word) None)
        ≡ option_and_then (λ n. option_and_then within (onward n word))
        (cond full None (cond digit (Some (m * 10 + (b - 48))) None))
    go true true e = high (m * 10 + (b - 48)) word (omega (arith, ltb-true 922337203685477580 m e))
    go true false e = refl
    go false true e = refl
    go false false e = refl

-- the same at place i of a word
pub next : (word : List ℕ) (m i : ℕ) (o : Option ℕ) → i < length word → o ≡ further m (get_or word i 0)
    → option_and_then within (onward m (drop i word))
    ≡ option_and_then (λ n. option_and_then within (onward n (drop (i + 1) word))) o
next word m i o h e =
    rw (e, add-one i, drop-cons word i 0 h) (step m (get_or word i 0) (drop (suc i) word))

pub spelled-none : (word : List ℕ) → length word ≡ 0 → spelled word ≡ None
unfolding spelled
spelled-none [] e = refl
spelled-none (b ∷ word) e = absurd (omega arith)

-- what stands behind a word's first byte, as a slice of it
pub behind : (word : List ℕ) → take (length word - 1) (drop 1 word) ≡ drop 1 word
behind word = take_all (length word - 1) (drop 1 word) (omega (arith, length-drop 1 word))

pub begun : (word : List ℕ) → 0 < length word → option_and_then within (onward 0 word) ≡ kept word
unfolding spelled
begun [] h = absurd (omega arith)
begun (b ∷ word) h = refl

pub ended : (word whole : List ℕ) (m i : ℕ) → length word ≤ i → m < 9223372036854775810
    → option_and_then within (onward m (drop i word)) ≡ kept whole → Some m ≡ kept whole
unfolding onward
ended word whole m i h low e =
    rw (drop_of_length-le word {i = i} h, lt-ltb m 9223372036854775810 low) at e

-- what is kept is a number that is kept
pub further_low : (m b n : ℕ) → further m b ≡ Some n → n < 9223372036854775810
unfolding further
further_low m b n = go (ltb 922337203685477580 m) (leb 48 b) (leb b 57) refl refl
  where
    go : (full from to : Bool) → ltb 922337203685477580 m ≡ full → leb b 57 ≡ to
        → cond full None (cond (from && to) (Some (m * 10 + (b - 48))) None) ≡ Some n → n < 9223372036854775810
    go true from to e f q = absurd (cc)
    go false false to e f q = absurd (cc)
    go false true false e f q = absurd (cc)
    go false true true e f q =
        let same : m * 10 + (b - 48) ≡ n = cc in
        omega (arith, ltb-false 922337203685477580 m e, leb-true b 57 f)

-- a sign or a bound is put to what is kept as to what is spelled
module _ {A : Type 0} (f : ℕ → Option A) (far : (n : ℕ) → 9223372036854775810 ≤ n → f n ≡ None) where
  pub kept-put : (o : Option ℕ) → option_and_then f (option_and_then within o) ≡ option_and_then f o
  kept-put None = refl
  kept-put (Some n) = go (ltb n 9223372036854775810) refl
    where
      go : (t : Bool) → ltb n 9223372036854775810 ≡ t → option_and_then f (cond t (Some n) None) ≡ f n
      go true g = refl
      go false g = sym (far n (ltb-false n 9223372036854775810 g))

pub kept-counted : (o : Option ℕ) → option_and_then counted (option_and_then within o) ≡ option_and_then counted o
kept-counted = kept-put counted (λ n h. rw (le-ltb n (2 ^ 32) (omega arith)) refl)

pub kept-at_most : (o : Option ℕ) → option_and_then at_most (option_and_then within o) ≡ option_and_then at_most o
unfolding at_most
kept-at_most = kept-put at_most (λ n h. rw (le-ltb n (2 ^ 63) (omega arith)) refl)

pub kept-below : (o : Option ℕ) → option_and_then below (option_and_then within o) ≡ option_and_then below o
unfolding below
kept-below =
    kept-put below (λ n h. rw (ne_eqb n 0 (omega arith), le-ltb (n - 1) (2 ^ 63) (omega arith)) refl)
