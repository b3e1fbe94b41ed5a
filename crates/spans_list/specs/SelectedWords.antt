-- A bitmap by words of 64 entries: those selected, those in front of them, and where one turns to the other.
use Rattle.std.specs.Prelude.{◌≡◌, refl, true, false, eqb, length, drop}
use Rattle.std.proofs.Math.Path.{sym, ap, ap₂}
use Rattle.std.proofs.Common.{◌∙◌, add-zero, add-suc, length-append, get_or-take, lt-ltb, le-ltb, eqb-true}
use Rattle.std.proofs.Math.Bool.{Bool}
use mathlib.Core.List.{List, ◌++◌}
use Prim.Native.Nat.{ℕ, suc, ◌+◌, ◌-◌, ◌*◌, ◌/◌, ◌%◌, ◌^◌, ◌≤◌, ◌<◌}
use native.Mathlib.Omega.{arith}
use Rattle.std.specs.Int.Bits.{bit_xor}
use Rattle.std.specs.Int.Count.{ones}
use Rattle.std.proofs.Math.ListN.{take, get_or}
use Rattle.std.proofs.Math.Seq.{get_or-drop}
use Rattle.std.proofs.lemmas.Bool.{eqb-false}
use Rattle.rules.specs.Bits.{flag, bit, word, number, bit_of, bit_at, put}
use Rattle.rules.specs.Bits.Order.{low_first}
use Rattle.rules.specs.Spans.{selected}
use Rattle.words.specs.Bits.{bit_lt, bit_word, word_of, word_lt, word-ext, word_add, word_mod, word_none, word-xor}
use Rattle.words.specs.Joined.{Small, small-take, small-drop, bit-joined}
use Rattle.words.specs.Puts.{put-behind}
use Rattle.bitmaps.specs.Counts.{ones-word}
use Rattle.spans_list.specs.Turns.{in_front, turns, turned, turned_add, length-turned}
use Rattle.spans_list.specs.SetBits.{edges_of, edges-turned}

-- ---- the entries selected

-- a bit is what the test of it says
pub flag_one : (x : ℕ) → x < 2 → x ≡ flag (eqb x 1)
flag_one x h = go (eqb x 1) refl
  where
    go : (t : Bool) → eqb x 1 ≡ t → x ≡ flag t
    go true e = eqb-true x 1 e
    go false e = omega (arith, eqb-false x 1 e)

module _ (l : List ℕ) (small : Small 8 l) (n q x : ℕ) (fits : x < 2 ^ 64)
    (e : x ≡ number (take 8 (drop (8 * q) l))) where
  -- is bit j of the eight bytes set
  abbrev set : ℕ → Bool
  set j = eqb (bit_at low_first 8 l (64 * q + j)) 1

  bit-loaded : (j : ℕ) → j < 64 → bit x j ≡ bit_at low_first 8 l (64 * q + j)
  unfolding bit_at bit_of
  bit-loaded j h =
      let eight : List ℕ = take 8 (drop (8 * q) l) in
      let byte : 8 * q + j / 8 ≡ (64 * q + j) / 8 = omega arith in
      let place : j % 8 ≡ (64 * q + j) % 8 = omega arith in
      ap (λ (v : ℕ). bit v j) e ∙ bit-joined 8 eight j (omega arith)
      (small-take 8 8 (drop (8 * q) l) (small-drop 8 (8 * q) l small))
      ∙ ap₂ bit
      (get_or-take 8 (drop (8 * q) l) (j / 8) 0 (omega arith) ∙ get_or-drop (8 * q) l (j / 8) 0
      ∙ ap (λ (i : ℕ). get_or l i 0) byte)
      place

  loaded : x ≡ word 64 set
  loaded =
      word_of 64 set fits (λ j h. flag_one (bit x j) (bit_lt x j) ∙ ap (λ (b : ℕ). flag (eqb b 1)) (bit-loaded j h))

  -- all of them lie below n
  pub selected-whole : 64 * q + 64 ≤ n → x ≡ word 64 (λ j. selected l n (64 * q + j))
  unfolding selected
  selected-whole below = loaded ∙ word-ext 64 (λ j h. sym (rw (lt-ltb (64 * q + j) n (omega arith))))

  -- those from n on are out
  pub selected_part : 64 * q ≤ n → n < 64 * q + 64 → x % 2 ^ (n - 64 * q) ≡ word 64 (λ j. selected l n (64 * q + j))
  unfolding selected
  selected_part from below =
      let r : ℕ = n - 64 * q in
      let f : ℕ → Bool = λ j. selected l n (64 * q + j) in
      let whole : 64 ≡ r + (64 - r) = omega arith in
      let past : word (64 - r) (λ j. f (r + j)) ≡ 0 =
      word-ext (64 - r) (λ j _. rw (le-ltb (64 * q + (r + j)) n (omega arith))) ∙ word_none (64 - r) in
      let front : word r f ≡ word r set = word-ext r (λ j h. rw (lt-ltb (64 * q + j) n (omega arith))) in
      ap (λ (v : ℕ). v % 2 ^ r) loaded ∙ word_mod r 64 set (omega arith)
      ∙ sym (ap (λ (m : ℕ). word m f) whole ∙ word_add r (64 - r) f ∙ rw (past, front) (omega arith))

-- ---- those in front, and the turns

word-suc : (n : ℕ) (f : ℕ → Bool) → word (suc n) f ≡ flag (f 0) + word n (λ k. f (suc k)) * 2
unfolding word
word-suc n f = refl

module _ (test : ℕ → Bool) (p x carry : ℕ) (is : x ≡ word 64 (λ j. test (p + j)))
    (was : carry ≡ flag (in_front test p)) where
  front-word : x % 2 ^ 63 * 2 + carry ≡ word 64 (λ j. in_front test (p + j))
  unfolding in_front
  front-word =
      let low : x % 2 ^ 63 ≡ word 63 (λ j. test (p + j)) =
      ap (λ (v : ℕ). v % 2 ^ 63) is ∙ word_mod 63 64 (λ j. test (p + j)) (omega arith) in
      let up : word 63 (λ j. test (p + j)) ≡ word 63 (λ j. in_front test (p + suc j)) =
      word-ext 63 (λ j _. ap (in_front test) (sym (add-suc p j))) in
      let here : carry ≡ flag (in_front test (p + 0)) = was ∙ ap (λ (q : ℕ). flag (in_front test q)) (sym (add-zero p)) in
      omega (arith, low, up, here, word-suc 63 (λ j. in_front test (p + j)))

  turns-word : bit_xor x (x % 2 ^ 63 * 2 + carry) ≡ word 64 (λ j. turns test (p + j))
  turns-word = ap₂ bit_xor is front-word ∙ word-xor 64 (λ j. test (p + j)) (λ j. in_front test (p + j))

  -- what the word leaves to the next
  pub next_carry : x / 2 ^ 63 ≡ flag (in_front test (p + 64))
  unfolding bit in_front
  next_carry =
      let top : x / 2 ^ 63 % 2 ≡ flag (test (p + 63)) =
      ap (λ (v : ℕ). bit v 63) is ∙ bit_word 64 (λ j. test (p + j)) 63 (omega arith) in
      let small : x < 2 ^ 64 = rw is (word_lt 64 (λ j. test (p + j))) in
      let at : suc (p + 63) ≡ p + 64 = omega arith in
      rw (← at) (omega (arith, top))

  -- so many edges more
  pub turns-count : ones (bit_xor x (x % 2 ^ 63 * 2 + carry)) ≡ length (turned test 64 p)
  turns-count =
      ap ones turns-word ∙ ones-word 64 (λ j. turns test (p + j)) ∙ sym (length-turned test 64 p)

  -- and these
  pub turns-edges : edges_of (in_front test p) 64 p (bit_xor x (x % 2 ^ 63 * 2 + carry)) ≡ turned test 64 p
  turns-edges = ap (edges_of (in_front test p) 64 p) turns-word ∙ edges-turned test 64 p

-- 64 entries more
pub turned_more : (test : ℕ → Bool) (p : ℕ) → length (turned test (p + 64) 0)
    ≡ length (turned test p 0) + length (turned test 64 p)
turned_more test p =
    ap length (turned_add test p 64 0) ∙ length-append (turned test p 0) (turned test 64 (0 + p))
    ∙ ap (λ (q : ℕ). length (turned test p 0) + length (turned test 64 q)) (omega arith)

pub turned-put : (test : ℕ → Bool) (p : ℕ) (before : List ℕ) {now after : List ℕ} {at : ℕ}
    → now ≡ put before 0 (turned test p 0)
    → at ≡ length (turned test p 0) → after ≡ put now at (turned test 64 p) → length (turned test (p + 64) 0)
    ≤ length before
    → after ≡ put before 0 (turned test (p + 64) 0)
turned-put test p before {now} {after} {at} e f g room =
    let from : p ≡ 0 + p = omega arith in
    put-behind before 0 (turned test p 0) (turned test 64 p) e (omega (arith, f)) g (omega (arith, turned_more test p))
    ∙ ap (put before 0) (ap (λ (q : ℕ). turned test p 0 ++ turned test 64 q) from ∙ sym (turned_add test p 64 0))
