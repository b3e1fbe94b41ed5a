-- Words of 64 entries, stored one after the other, and their bits.
use Rattle.std.specs.Prelude.{◌≡◌, refl, Bool, true, false, List, [], ◌++◌, ℕ, zero, suc, ◌+◌, ◌-◌, ◌*◌, ◌^◌, ◌≤◌, ◌<◌, length}
use Rattle.std.proofs.Common.{sym, ap, ap₂, subst, ◌∙◌, append_assoc, append-nil, add-zero, mul-one, mul_comm, arith, length-append, pow-add}
use Rattle.std.proofs.Math.Nat.{mul-sub}
use Rattle.rules.specs.Bits.{word, bytes, put}
use Rattle.rules.specs.Bitmap.{bitmap}
use Rattle.words.specs.Bits.{word-ext, word_add, word_all, word_none, word_lt}
use Rattle.words.specs.Bytes.{length-bytes}
use Rattle.words.specs.Puts.{length-put, put-none, put-put}
use Rattle.bitmaps.specs.Bitmaps.{length-bitmap, next_word}

-- k words, of which the first is x and the others are `rest`, as bytes
unfoldable pub filled : ℕ → ℕ → ℕ → List ℕ
filled zero x rest = []
filled (suc k) x rest = bytes 8 x ++ filled k rest rest

-- and the word that comes then
abbrev pub passed : ℕ → ℕ → ℕ → ℕ
passed zero x rest = x
passed (suc k) x rest = rest

pub length-filled : (k x rest : ℕ) → length (filled k x rest) ≡ 8 * k
unfolding filled
length-filled zero x rest = omega arith
length-filled (suc k) x rest =
    omega (arith, length-append (bytes 8 x) (filled k rest rest), length-bytes 8 x, length-filled k rest rest)

passed-same : (k rest : ℕ) → passed k rest rest ≡ rest
passed-same zero rest = refl
passed-same (suc k) rest = refl

-- a word more
pub filled_more : (k x rest : ℕ) → filled (k + 1) x rest ≡ filled k x rest ++ bytes 8 (passed k x rest)
unfolding filled
filled_more zero x rest = append-nil (bytes 8 x)
filled_more (suc k) x rest =
    let up : suc k + 1 ≡ suc (k + 1) = omega arith in
    rw up (ap (λ (l : List ℕ). bytes 8 x ++ l)
    (filled_more k rest rest ∙ ap (λ (y : ℕ). filled k rest rest ++ bytes 8 y) (passed-same k rest))
    ∙ sym (append_assoc (bytes 8 x) (filled k rest rest) (bytes 8 rest)))

pub passed-more : (k x rest : ℕ) → passed (k + 1) x rest ≡ rest
passed-more k x rest = let up : k + 1 ≡ suc k = omega arith in ap (λ (m : ℕ). passed m x rest) up

-- ---- the words in front of word `at` are in place for the test f, and x is word `at` of a test g

pub record Stands (f g : ℕ → Bool) (at x : ℕ) (before now : List ℕ) : Type 0 where
  pub in_place : now ≡ put before 0 (bitmap (64 * at) f)
  pub word_is : x ≡ word 64 (λ j. g (64 * at + j))

-- k words on: so far the tests agree, and from the next word on g holds of every entry, or of none
pub stands-pass : (f g : ℕ → Bool) (t : Bool) (k at x rest : ℕ) (before : List ℕ) {now after : List ℕ}
    → Stands f g at x before now → after ≡ put now (8 * at) (filled k x rest) → 8 * (at + k) ≤ length before
    → ((i : ℕ) → 64 * at ≤ i → i < 64 * (at + k) → g i ≡ f i) → ((i : ℕ) → 64 * at + 64 ≤ i → g i ≡ t)
    → rest ≡ word 64 (λ _. t) → Stands f g (at + k) (passed k x rest) before after
unfolding filled
stands-pass f g t zero at x rest before s e room same tail r =
    rw (add-zero at) (record { in_place = e ∙ sym (put-none _ (8 * at)) ∙ s.in_place; word_is = s.word_is })
stands-pass f g t (suc k) at x rest before {now} {after} s e room same tail r =
    let up : at + suc k ≡ at + 1 + k = omega arith in
    let place : 64 * (at + 1) ≡ 64 * at + 64 = omega arith in
    let here : x ≡ word 64 (λ j. f (64 * at + j)) =
    s.word_is ∙ word-ext 64 (λ j h. same (64 * at + j) (omega arith) (omega arith)) in
    let stored : put now (8 * at) (bytes 8 x) ≡ put before 0 (bitmap (64 * (at + 1)) f) =
    ap (λ (l : List ℕ). put l (8 * at) (bytes 8 x)) s.in_place ∙ next_word before at 64 x f (omega arith) here
    ∙ ap (λ (m : ℕ). put before 0 (bitmap m f)) (sym place) in
    let long : length now ≡ length before =
    ap length s.in_place ∙ length-put before 0 (bitmap (64 * at) f) (omega (arith, length-bitmap (64 * at) f)) in
    let behind : 8 * (at + 1) ≡ 8 * at + length (bytes 8 x) = omega (arith, length-bytes 8 x) in
    let split : after ≡ put (put now (8 * at) (bytes 8 x)) (8 * (at + 1)) (filled k rest rest) =
    e ∙ sym (ap (λ (p : ℕ). put (put now (8 * at) (bytes 8 x)) p (filled k rest rest)) behind
    ∙ put-put now (bytes 8 x) (filled k rest rest) (8 * at)
    (omega (arith, length-bytes 8 x, length-filled k rest rest))) in
    let next : Stands f g (at + 1) rest before (put now (8 * at) (bytes 8 x)) =
    record { in_place = stored; word_is = r ∙ word-ext 64 (λ j h. sym (tail (64 * (at + 1) + j) (omega arith))) } in
    let gone : Stands f g (at + 1 + k) (passed k rest rest) before after =
    stands-pass f g t k (at + 1) rest rest before next split (omega arith)
    (λ i h l. same i (omega arith) (omega arith)) (λ i h. tail i (omega arith)) r in
    rw up (subst (λ (y : ℕ). Stands f g (at + 1 + k) y before after) (passed-same k rest) gone)

-- ---- the bits of a word from bit r on, and those up to it

module _ (f g : ℕ → Bool) (q r : ℕ) (few : r < 64) where
  abbrev here : ℕ → ℕ
  here j = 64 * q + j

  -- a word of which every entry from bit r on holds, or none
  tail : (h : ℕ → Bool) (t : Bool) (m : ℕ) → m ≤ 64 → ((j : ℕ) → m ≤ j → j < 64 → h j ≡ t)
      → word 64 h ≡ word m h + word (64 - m) (λ _. t) * 2 ^ m
  tail h t m small same =
      let whole : 64 ≡ m + (64 - m) = omega arith in
      ap (λ (k : ℕ). word k h) whole ∙ word_add m (64 - m) h
      ∙ ap (λ (y : ℕ). word m h + y * 2 ^ m) (word-ext (64 - m) (λ j l. same (m + j) (omega arith) (omega arith)))

  all_from : (m : ℕ) → m ≤ 64 → word (64 - m) (λ _. true) * 2 ^ m ≡ 2 ^ 64 - 2 ^ m
  all_from m small =
      let whole : m + (64 - m) ≡ 64 = omega arith in
      let pow : 2 ^ m * 2 ^ (64 - m) ≡ 2 ^ 64 = sym (pow-add 2 m (64 - m)) ∙ ap (λ (k : ℕ). 2 ^ k) whole in
      ap (λ (y : ℕ). y * 2 ^ m) (word_all (64 - m)) ∙ mul_comm (2 ^ (64 - m) - 1) (2 ^ m)
      ∙ mul-sub (2 ^ m) (2 ^ (64 - m)) 1 ∙ ap₂ (λ (a b : ℕ). a - b) pow (mul-one (2 ^ m))

  -- g holds of nothing from bit r on, and below it the tests agree
  pub low_bits : (x : ℕ) → x ≡ word 64 (λ j. g (here j)) → ((j : ℕ) → r ≤ j → j < 64 → g (here j) ≡ false)
      → ((j : ℕ) → j < r → g (here j) ≡ f (here j)) → x ≡ word r (λ j. f (here j))
  low_bits x e off same =
      let low : word r (λ j. g (here j)) ≡ word r (λ j. f (here j)) = word-ext r same in
      e ∙ tail (λ j. g (here j)) false r (omega arith) off ∙ rw (word_none, low) (omega arith)

  -- a stretch begins at bit r, of f
  pub begin_bits : (x : ℕ) → x ≡ word 64 (λ j. g (here j)) → ((j : ℕ) → r ≤ j → j < 64 → g (here j) ≡ false)
      → ((j : ℕ) → r ≤ j → j < 64 → f (here j) ≡ true) → ((j : ℕ) → j < r → g (here j) ≡ f (here j))
      → (x < 2 ^ r) × (x + (2 ^ 64 - 2 ^ r) ≡ word 64 (λ j. f (here j)))
  begin_bits x e off on same =
      let is : x ≡ word r (λ j. f (here j)) = low_bits x e off same in (
        rw is (word_lt r (λ j. f (here j))),
        ap₂ (λ (a b : ℕ). a + b) is (sym (all_from r (omega arith)))
            ∙ sym (tail (λ j. f (here j)) true r (omega arith) on),
      )

  -- it ends there: behind bit r f holds of every entry, and g of none
  pub end-bits : (x : ℕ) → x ≡ word 64 (λ j. f (here j)) → ((j : ℕ) → r < j → j < 64 → f (here j) ≡ true)
      → ((j : ℕ) → r < j → j < 64 → g (here j) ≡ false) → ((j : ℕ) → j ≤ r → f (here j) ≡ g (here j))
      → (2 ^ 64 - 2 ^ (r + 1) ≤ x) × (x - (2 ^ 64 - 2 ^ (r + 1)) ≡ word 64 (λ j. g (here j)))
  end-bits x e on off same =
      let low : word (r + 1) (λ j. f (here j))
      ≡ word (r + 1) (λ j. g (here j)) = word-ext (r + 1) (λ j h. same j (omega arith)) in
      let all : word 64 (λ j. f (here j))
      ≡ word (r + 1) (λ j. f (here j)) + word (64 - (r + 1)) (λ _. true) * 2 ^ (r + 1) =
      tail (λ j. f (here j)) true (r + 1) (omega arith) (λ j a b. on j (omega arith) b) in
      let is : x ≡ word (r + 1) (λ j. g (here j)) + (2 ^ 64 - 2 ^ (r + 1)) =
      e ∙ all ∙ ap₂ (λ (a b : ℕ). a + b) low (all_from (r + 1) (omega arith)) in
      let cut : word 64 (λ j. g (here j)) ≡ word (r + 1) (λ j. g (here j)) =
      tail (λ j. g (here j)) false (r + 1) (omega arith) (λ j a b. off j (omega arith) b)
      ∙ rw word_none (omega arith) in
      (omega (arith, is), omega (arith, is, cut))
