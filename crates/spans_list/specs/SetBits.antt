-- The edges of 64 entries by the word of their turns: its set bits one after the other, lowest first; each is found by
-- the zeros below it, and then cleared.
use Rattle.std.specs.Prelude.{◌≡◌, refl, Bool, true, false, not, cond, List, [], ◌∷◌, ◌++◌, ℕ, zero, suc, ◌+◌, ◌-◌, ◌*◌, ◌/◌, ◌%◌, ◌^◌, ◌≤◌, ◌<◌, eqb, length, set}
use Rattle.std.proofs.Common.{sym, ap, ap₂, ◌∙◌, append_assoc, append-nil, add-zero, pow-suc, arith, length-append}
use Rattle.std.proofs.Math.Bool.{xor}
use Rattle.std.specs.Int.Bits.{bit_and, and_step, and_self}
use Rattle.std.proofs.lemmas.Nat.{and_le_l}
use Rattle.std.specs.Int.Count.{ones, ones_step, count_trailing_zeros, under}
use Rattle.rules.specs.Bits.{flag, word, put}
use Rattle.rules.specs.Spans.{noted}
use Rattle.words.specs.Bits.{flag_lt, word-ext}
use Rattle.words.specs.Puts.{put-none, put-behind, set-put, put_snoc}
use Rattle.spans_list.specs.Turns.{in_front, turns, edge, turned}

-- the edges at the set bits of a word of m bits, counted from entry p on: where a stretch is open the first of them
-- ends it, and then one begins where the one before has ended
unfoldable pub edges_of : Bool → ℕ → ℕ → ℕ → List ℕ
edges_of within zero p x = []
edges_of within (suc m) p x =
    cond (eqb (x % 2) 1) (edge within p ∷ edges_of (not within) m (suc p) (x / 2)) (edges_of within m (suc p) (x / 2))

pub edges_none : (within : Bool) (m p : ℕ) → edges_of within m p 0 ≡ []
unfolding edges_of
edges_none within zero p = refl
edges_none within (suc m) p = edges_none within m (suc p)

-- ---- the lowest is cleared

cleared_odd : (x : ℕ) → x % 2 ≡ 1 → bit_and x (x - 1) ≡ x / 2 * 2
cleared_odd x odd =
    let half : (x - 1) / 2 ≡ x / 2 = omega arith in
    let low : (x - 1) % 2 ≡ 0 = omega arith in
    and_step x (x - 1) ∙ rw (half, low, and_self) (omega arith)

cleared_even : (x : ℕ) → x % 2 ≡ 0 → bit_and x (x - 1) ≡ bit_and (x / 2) (x / 2 - 1) * 2
cleared_even x even =
    let half : (x - 1) / 2 ≡ x / 2 - 1 = omega arith in
    and_step x (x - 1) ∙ rw (half, even) (omega arith)

module _ (within : Bool) (m p x : ℕ) where
  edges-even : x % 2 ≡ 0 → edges_of within (suc m) p x ≡ edges_of within m (suc p) (x / 2)
  unfolding edges_of
  edges-even even = rw even

  edges-odd : x % 2 ≡ 1 → edges_of within (suc m) p x ≡ edge within p ∷ edges_of (not within) m (suc p) (x / 2)
  unfolding edges_of
  edges-odd odd = rw odd

edges_twice : (within : Bool) (m p y : ℕ) → edges_of within (suc m) p (y * 2) ≡ edges_of within m (suc p) y
edges_twice within m p y =
    let half : y * 2 / 2 ≡ y = omega arith in
    edges-even within m p (y * 2) (omega arith) ∙ ap (edges_of within m (suc p)) half

-- the first edge, and the others
edges-first : (within : Bool) (m p x : ℕ) → 0 < x → x < 2 ^ m
    → edges_of within m p x ≡ edge within (p + count_trailing_zeros m x) ∷ edges_of (not within) m p (bit_and x (x - 1))
unfolding count_trailing_zeros
edges-first within zero p x some small = absurd (omega arith)
edges-first within (suc m) p x some small =
    go (x % 2) refl (λ more. edges-first within m (suc p) (x / 2) more (omega (arith, pow-suc 2 m)))
  where
    zeros : ℕ
    zeros = count_trailing_zeros m (x / 2)

    -- the word without its lowest set bit
    cleared : (y : ℕ) → bit_and x (x - 1) ≡ y * 2 → edges_of (not within) m (suc p) y
        ≡ edges_of (not within) (suc m) p (bit_and x (x - 1))
    cleared y e = sym (ap (edges_of (not within) (suc m) p) e ∙ edges_twice (not within) m p y)

    go : (r : ℕ) → x % 2 ≡ r
        → (0 < x / 2 → edges_of within m (suc p) (x / 2)
        ≡ edge within (suc p + zeros) ∷ edges_of (not within) m (suc p) (bit_and (x / 2) (x / 2 - 1)))
        → edges_of within (suc m) p x
        ≡ edge within (p + under (x % 2) zeros) ∷ edges_of (not within) (suc m) p (bit_and x (x - 1))
    go zero even more =
        let at : suc p + zeros ≡ p + suc zeros = omega arith in
        edges-even within m p x even ∙ more (omega arith)
        ∙ rw even
        (ap₂ (λ (i : ℕ) (l : List ℕ). edge within i ∷ l) at
        (cleared (bit_and (x / 2) (x / 2 - 1)) (cleared_even x even)))
    go (suc zero) odd more =
        edges-odd within m p x odd
        ∙ rw odd (ap₂ (λ (i : ℕ) (l : List ℕ). edge within i ∷ l) (sym (add-zero p))
        (cleared (x / 2) (cleared_odd x odd)))
    go (suc (suc r)) other more = absurd (omega arith)

-- where the lowest set bit lies
pub trailing_lt : (m x : ℕ) → 0 < x → x < 2 ^ m → count_trailing_zeros m x < m
unfolding count_trailing_zeros
trailing_lt zero x some small = absurd (omega arith)
trailing_lt (suc m) x some small = go (x % 2) refl (λ more. trailing_lt m (x / 2) more (omega (arith, pow-suc 2 m)))
  where
    go : (r : ℕ) → x % 2 ≡ r → (0 < x / 2 → count_trailing_zeros m (x / 2) < m)
        → under (x % 2) (count_trailing_zeros m (x / 2)) < suc m
    go zero even more = rw even (omega (arith, more (omega arith)))
    go (suc r) odd more = rw odd (omega arith)

-- once it is cleared the next lies further up
pub cleared_low : (x : ℕ) → bit_and x (x - 1) % 2 ≡ 0
cleared_low x = go (x % 2) refl
  where
    go : (r : ℕ) → x % 2 ≡ r → bit_and x (x - 1) % 2 ≡ 0
    go zero even = rw (cleared_even x even) (omega arith)
    go (suc zero) odd = rw (cleared_odd x odd) (omega arith)
    go (suc (suc r)) other = absurd (omega arith)

pub trailing_even : (m x : ℕ) → x % 2 ≡ 0 → 0 < count_trailing_zeros (suc m) x
unfolding count_trailing_zeros
trailing_even m x even = rw even (omega arith)

-- ---- how many they are

pub ones_none : ones 0 ≡ 0
unfolding ones
ones_none = refl

length-edges_of : (within : Bool) (m p x : ℕ) → x < 2 ^ m → length (edges_of within m p x) ≡ ones x
length-edges_of within zero p x small = let none : x ≡ 0 = omega arith in rw (none, edges_none) (sym ones_none)
length-edges_of within (suc m) p x small =
    go (x % 2) refl (λ w. length-edges_of w m (suc p) (x / 2) (omega (arith, pow-suc 2 m)))
  where
    go : (r : ℕ) → x % 2 ≡ r → ((w : Bool) → length (edges_of w m (suc p) (x / 2)) ≡ ones (x / 2))
        → length (edges_of within (suc m) p x) ≡ ones x
    go zero even rest = omega (arith, ap length (edges-even within m p x even), rest within, ones_step x)
    go (suc zero) odd rest = omega (arith, ap length (edges-odd within m p x odd), rest (not within), ones_step x)
    go (suc (suc r)) other rest = absurd (omega arith)

-- ---- of the turns of a test

pub one-flag : (t : Bool) → eqb (flag t) 1 ≡ t
one-flag true = refl
one-flag false = refl

one-turn : (t s : Bool) (p : ℕ) (rest : Bool → List ℕ)
    → cond (eqb (flag (xor t s)) 1) (edge s p ∷ rest (not s)) (rest s) ≡ noted (xor t s) (edge s p) (rest t)
unfolding xor
one-turn true true p rest = refl
one-turn true false p rest = refl
one-turn false true p rest = refl
one-turn false false p rest = refl

pub edges-turned : (test : ℕ → Bool) (m p : ℕ)
    → edges_of (in_front test p) m p (word m (λ k. turns test (p + k))) ≡ turned test m p
unfolding edges_of word turned in_front
edges-turned test zero p = refl
edges-turned test (suc m) p =
    let x : ℕ = word m (λ k. turns test (p + suc k)) in
    let here : turns test (p + 0) ≡ turns test p = ap (turns test) (add-zero p) in
    let t : Bool = turns test p in
    let low : (flag t + x * 2) % 2 ≡ flag t = omega (arith, flag_lt t) in
    let high : (flag t + x * 2) / 2 ≡ x = omega (arith, flag_lt t) in
    let same : x ≡ word m (λ k. turns test (suc p + k)) = word-ext m (λ k _. ap (turns test) (omega arith)) in
    rw (here, low, high, same)
    (one-turn (test p) (in_front test p) p (λ w. edges_of w m (suc p) (word m (λ k. turns test (suc p + k))))
    ∙ ap (noted t (edge (in_front test p) p)) (edges-turned test m (suc p)))

-- ---- put into places one after the other

-- the edges found so far are in place from q on, and those left are the others
pub record Found (was : Bool) (m p x : ℕ) (is : Bool) (left : ℕ) (before now : List ℕ) (q at : ℕ) : Type 0 where
  pub found : List ℕ
  pub in_place : now ≡ put before q found
  pub reached : at ≡ q + length found
  pub others : edges_of was m p x ≡ found ++ edges_of is m p left

pub found_none : (within : Bool) (m p x : ℕ) (before : List ℕ) (q : ℕ) → Found within m p x within x before before q q
found_none within m p x before q =
    record { found = []; in_place = put-none before q; reached = omega arith; others = refl }

module _ {was : Bool} {m p x : ℕ} {is : Bool} {left : ℕ} {before now : List ℕ} {q at : ℕ}
    (f : Found was m p x is left before now q at) (small : x < 2 ^ m) (room : q + ones x ≤ length before) where
  module _ (some : 0 < left) (fits : left < 2 ^ m) where
    abbrev next : ℕ
    next = edge is (p + count_trailing_zeros m left)

    abbrev rest : List ℕ
    rest = edges_of (not is) m p (bit_and left (left - 1))

    more : edges_of was m p x ≡ (f.found ++ (next ∷ [])) ++ rest
    more =
        f.others ∙ ap (λ (l : List ℕ). f.found ++ l) (edges-first is m p left some fits)
        ∙ sym (append_assoc f.found (next ∷ []) rest)

    size : length f.found + 1 + length rest ≡ ones x
    size =
        omega (
          arith,
          length-edges_of was m p x small,
          ap length more,
          length-append (f.found ++ (next ∷ [])) rest,
          length-append f.found (next ∷ []),
        )

    pub found-room : at < length before
    found-room = omega (arith, f.reached, size)

    pub found-more : Found was m p x (not is) (bit_and left (left - 1)) before (set now at next) q (at + 1)
    found-more =
        record {
          found = f.found ++ (next ∷ []);
          in_place =
              ap (λ (l : List ℕ). set l at next) f.in_place
              ∙ put_snoc before f.found q at next f.reached found-room;
          reached = omega (arith, f.reached, length-append f.found (next ∷ []));
          others = more;
        }

  pub found_all : left ≡ 0 → (at ≡ q + ones x) × (now ≡ put before q (edges_of was m p x))
  found_all none =
      let all : edges_of was m p x ≡ f.found =
      f.others ∙ ap (λ (y : ℕ). f.found ++ edges_of is m p y) none
      ∙ ap (λ (l : List ℕ). f.found ++ l) (edges_none is m p)
      ∙ append-nil f.found in (
        omega (arith, f.reached, ap length all, length-edges_of was m p x small),
        f.in_place
            ∙ ap (put before q) (sym all),
      )

-- the first by itself, and then the others
module _ (is : Bool) (m p x : ℕ) (some : 0 < x) (fits : x < 2 ^ m) where
  pub ones-first : ones x ≡ 1 + ones (bit_and x (x - 1))
  ones-first =
      omega (
        arith,
        length-edges_of is m p x fits,
        ap length (edges-first is m p x some fits),
        length-edges_of (not is) m p (bit_and x (x - 1)) (omega (arith, and_le_l x (x - 1))),
      )

  pub put_first : (before : List ℕ) {after : List ℕ} (q : ℕ) → q + ones x ≤ length before
      → after ≡ put (set before q (edge is (p + count_trailing_zeros m x))) (q + 1) (edges_of (not is) m p (bit_and x (x - 1)))
      → after ≡ put before q (edges_of is m p x)
  put_first before q room e =
      let rest = length-edges_of (not is) m p (bit_and x (x - 1)) (omega (arith, and_le_l x (x - 1))) in
      put-behind before q (edge is (p + count_trailing_zeros m x) ∷ []) (edges_of (not is) m p (bit_and x (x - 1)))
      (set-put before q (edge is (p + count_trailing_zeros m x)) (omega (arith, ones-first))) (omega arith) e
      (omega (arith, ones-first, rest))
      ∙ ap (put before q) (sym (edges-first is m p x some fits))
