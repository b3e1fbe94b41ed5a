-- Where a test turns from one entry to the next: there lie the edges of its stretches.
use Rattle.std.specs.Prelude.{◌≡◌, refl, true, false, not, ◌&&◌, leb}
use Rattle.std.proofs.Math.Path.{sym, ap}
use Rattle.std.proofs.Common.{◌∙◌, add-zero, zero-add, length-append, le-ltb, leb-true, leb-false}
use Rattle.std.proofs.Math.Bool.{Bool, xor}
use mathlib.Core.List.{List, [], ◌∷◌, ◌++◌, append-nil}
use Prim.Native.Nat.{ℕ, zero, suc, ◌+◌, ◌-◌, ◌*◌, ◌/◌, ◌%◌, ◌≤◌, ◌<◌}
use native.Mathlib.Omega.{arith}
use Rattle.std.proofs.Math.ListN.{length}
use Rattle.rules.specs.Bits.{flag}
use Rattle.rules.specs.Bitmap.{tally}
use Rattle.rules.specs.Spans.{selected, begins, ends, noted, edges, spans}
use Rattle.words.specs.Bits.{flag_lt}
use Rattle.bitmaps.specs.Counts.{tally_le, tally-ext}

-- is the entry in front of entry i selected
unfoldable pub in_front : (ℕ → Bool) → ℕ → Bool
in_front test zero = false
in_front test (suc i) = test i

-- entry 0 has none
pub front_le : (test : ℕ → Bool) (i : ℕ) → flag (in_front test i) ≤ i
unfolding in_front
front_le test zero = omega arith
front_le test (suc i) = omega (arith, flag_lt (test i))

-- is entry i selected and the one in front not, or the other way round
abbrev pub turns : (ℕ → Bool) → ℕ → Bool
turns test i = xor (test i) (in_front test i)

-- the edge that lies there: entry i, where a stretch begins, or the one in front, where one ends
abbrev pub edge : Bool → ℕ → ℕ
edge false i = i
edge true i = i - 1

-- the edges at the turns of k entries from entry p on
unfoldable pub turned : (ℕ → Bool) → ℕ → ℕ → List ℕ
turned test zero p = []
turned test (suc k) p = noted (turns test p) (edge (in_front test p) p) (turned test k (suc p))

-- ---- they are the edges

-- with the end of a stretch that ends in front of entry p
abbrev edges_from : (ℕ → Bool) → ℕ → ℕ → List ℕ
edges_from test k zero = edges k 0 test
edges_from test k (suc p) = noted (ends test p) p (edges k (suc p) test)

one-edge : (s t : Bool) (p : ℕ) (l : List ℕ)
    → noted (s && not t) p (noted (t && not s) (suc p) l) ≡ noted (xor t s) (edge s (suc p)) l
unfolding xor
one-edge true true p l = refl
one-edge true false p l = ap (λ (i : ℕ). i ∷ l) (omega arith)
one-edge false true p l = refl
one-edge false false p l = refl

first_edge : (t : Bool) (l : List ℕ) → noted t 0 l ≡ noted (xor t false) 0 l
unfolding xor
first_edge true l = refl
first_edge false l = refl

turned-edges : (test : ℕ → Bool) (k p : ℕ) → test (p + k) ≡ false → edges_from test k p ≡ turned test (suc k) p
unfolding edges turned begins ends in_front
turned-edges test zero zero off = rw off (first_edge false [])
turned-edges test zero (suc p) off =
    rw (simp add-zero at off) (one-edge (test p) false p [])
turned-edges test (suc k) zero off =
    ap (noted (test 0) 0) (turned-edges test k 1 (let e : 1 + k ≡ 0 + suc k = omega arith in ap test e ∙ off))
    ∙ first_edge (test 0) (turned test (suc k) 1)
turned-edges test (suc k) (suc p) off =
    ap (λ (l : List ℕ). noted (ends test p) p (noted (begins test (suc p)) (suc p) l))
    (turned-edges test k (suc (suc p)) (let e : suc (suc p) + k ≡ suc p + suc k = omega arith in ap test e ∙ off))
    ∙ one-edge (test p) (test (suc p)) p (turned test (suc k) (suc (suc p)))

-- ---- in parts

noted_append : (t : Bool) (x : ℕ) (l m : List ℕ) → noted t x l ++ m ≡ noted t x (l ++ m)
noted_append true x l m = refl
noted_append false x l m = refl

pub turned_add : (test : ℕ → Bool) (a b p : ℕ) → turned test (a + b) p ≡ turned test a p ++ turned test b (p + a)
unfolding turned
turned_add test zero b p = rw (zero-add b, add-zero p)
turned_add test (suc a) b p =
    let up : suc a + b ≡ suc (a + b) = omega arith in
    let at : p + suc a ≡ suc p + a = omega arith in
    rw (up, at, noted_append, turned_add test a b (suc p))

length-noted : (t : Bool) (x : ℕ) (l : List ℕ) → length (noted t x l) ≡ flag t + length l
length-noted true x l = omega arith
length-noted false x l = omega arith

pub length-turned : (test : ℕ → Bool) (k p : ℕ) → length (turned test k p) ≡ tally k (λ j. turns test (p + j))
unfolding turned tally
length-turned test zero p = refl
length-turned test (suc k) p =
    let here : turns test (p + 0) ≡ turns test p = ap (turns test) (add-zero p) in
    let rest : tally k (λ j. turns test (p + suc j)) ≡ tally k (λ j. turns test (suc p + j)) =
    tally-ext k (λ j _. ap (turns test) (omega arith)) in
    rw (length-noted, here, rest) (ap (λ (m : ℕ). flag (turns test p) + m) (length-turned test k (suc p)))

pub turned-few : (test : ℕ → Bool) (k p : ℕ) → length (turned test k p) ≤ k
turned-few test k p = omega (arith, length-turned test k p, tally_le k (λ j. turns test (p + j)))

-- behind entries that are not selected it turns no more
turned_off : (test : ℕ → Bool) (k p : ℕ) → ((j : ℕ) → p ≤ j → test j ≡ false) → turned test k (suc p) ≡ []
unfolding turned in_front xor
turned_off test zero p off = refl
turned_off test (suc k) p off =
    rw (off (suc p) (omega arith), off p (omega arith)) (turned_off test k (suc p) (λ j h. off j (omega arith)))

-- as many begin as end, but for one that is open
turned-even : (test : ℕ → Bool) (k p : ℕ)
    → (length (turned test k p) + flag (in_front test p)) % 2 ≡ flag (in_front test (p + k))
unfolding turned in_front xor
turned-even test zero p = rw (add-zero p) (omega (arith, flag_lt (in_front test p)))
turned-even test (suc k) p =
    let at : p + suc k ≡ suc p + k = omega arith in
    rw at (go (test p) (in_front test p) ∙ turned-even test k (suc p))
  where
    l : ℕ
    l = length (turned test k (suc p))

    go : (t s : Bool) → (length (noted (xor t s) (edge s p) (turned test k (suc p))) + flag s) % 2 ≡ (l + flag t) % 2
    go true true = refl
    go true false = omega arith
    go false true = omega arith
    go false false = refl

-- so after an odd number of edges from the first entry on a stretch is open
pub turned_open : (test : ℕ → Bool) (k : ℕ) → length (turned test k 0) % 2 ≡ flag (in_front test k)
turned_open test k =
    omega (arith, turned-even test k 0, front_le test 0, ap (λ (p : ℕ). flag (in_front test p)) (zero-add k))

-- ---- of a bitmap

module _ (bits : List ℕ) (n : ℕ) where
  pub past_n : (j : ℕ) → n ≤ j → selected bits n j ≡ false
  unfolding selected
  past_n j h = rw (le-ltb j n h)

  -- as soon as the entries reach past n, these are its stretches
  pub turned-spans : (m : ℕ) → n < m → turned (selected bits n) m 0 ≡ spans bits n
  unfolding spans
  turned-spans m h =
      let test : ℕ → Bool = selected bits n in
      let whole : m ≡ suc n + (m - suc n) = omega arith in
      let none : turned test (m - suc n) (0 + suc n) ≡ [] =
      ap (turned test (m - suc n)) (zero-add (suc n)) ∙ turned_off test (m - suc n) n past_n in
      ap (λ (k : ℕ). turned test k 0) whole ∙ turned_add test (suc n) (m - suc n) 0
      ∙ ap (λ (l : List ℕ). turned test (suc n) 0 ++ l) none ∙ append-nil (turned test (suc n) 0)
      ∙ sym (turned-edges test n 0 (past_n (0 + n) (omega arith)))

  -- and never more of them
  pub turned-within : (m : ℕ) → length (turned (selected bits n) m 0) ≤ length (spans bits n)
  turned-within m = go (leb m n) refl
    where
      go : (t : Bool) → leb m n ≡ t → length (turned (selected bits n) m 0) ≤ length (spans bits n)
      go true e =
          let whole : suc n ≡ m + (suc n - m) = omega (arith, leb-true m n e) in
          let test : ℕ → Bool = selected bits n in
          omega (
            arith,
            ap length (sym (turned-spans (suc n) (omega arith)) ∙ ap (λ (k : ℕ). turned test k 0) whole
                ∙ turned_add test m (suc n - m) 0),
            length-append (turned test m 0) (turned test (suc n - m) (0 + m)),
          )
      go false e = omega (arith, ap length (turned-spans m (leb-false m n e)))

  pub spans-even : length (spans bits n) % 2 ≡ 0
  unfolding in_front
  spans-even =
      omega (
        arith,
        ap length (turned-spans (suc n) (omega arith)),
        turned_open (selected bits n) (suc n),
        ap flag (past_n n (omega arith)),
      )

  -- so there is always room for them in so many places
  pub spans-enough : length (spans bits n) ≤ 2 * ((n + 1) / 2)
  spans-enough =
      omega
      (arith, spans-even, ap length (turned-spans (suc n) (omega arith)), turned-few (selected bits n) (suc n) 0)
