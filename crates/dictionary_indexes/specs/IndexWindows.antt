-- Packed indexes in windows of eight bytes: some are too large where a bit is set of those that the sums of their
-- slots have for it.
use Rattle.std.specs.Prelude.{◌≡◌, refl, Bool, true, false, ◌&&◌, ◌||◌, List, ℕ, zero, suc, ◌+◌, ◌-◌, ◌*◌, ◌/◌, ◌%◌, ◌^◌, ◌≤◌, ◌<◌, min, leb, ltb, eqb, take, drop}
use Rattle.std.proofs.Common.{ap, ap₂, ◌∙◌, add-mul, add-zero, mul_assoc, mul_comm, arith, pow_pos, pow-add, pow_mono, shr-shr, ltb-true, leb-true, leb-false, eqb-true}
use Rattle.std.specs.Int.Bits.{bit_and, bit_or, and_zero_r}
use Rattle.std.proofs.lemmas.Nat.{and_block}
use Rattle.rules.specs.Bits.{flag, tabulate, joined, number, field, some_below}
use Rattle.rules.specs.Bits.Order.{low_first}
use Rattle.words.specs.Tests.{both}
use Rattle.words.specs.Joined.{Small}
use Rattle.packed_kernels.specs.Slots.{slots, slots-ext, slots_add, slots_and, every}
use Rattle.packed_kernels.specs.SlotTests.{held, held_lt, holds_all, evens, sum_fits as slots-fit}
use Rattle.packed_kernels.specs.Windows.{window-entry}
use Rattle.words.specs.Nonzero.{any_add, any_mul, any_masked}
use Rattle.words.specs.SomeBelow.{some-ext, some_add, some_halves}

-- ---- sums in slots: bit w says whether a slot's index is too large

slot-large : (w limit x : ℕ) → x < 2 ^ w → limit ≤ 2 ^ w
    → bit_and (x + (2 ^ w - limit)) (2 ^ w) ≡ flag (leb limit x) * 2 ^ w
slot-large w limit x small low = go (leb limit x) refl
  where
    top : (a r : ℕ) → r < 2 ^ w → x + (2 ^ w - limit) ≡ a * 2 ^ w + r
        → bit_and (x + (2 ^ w - limit)) (2 ^ w) ≡ bit_and a 1 * 2 ^ w
    top a r h e =
        let one : 2 ^ w ≡ 1 * 2 ^ w + 0 = omega arith in
        ap₂ bit_and e one ∙ and_block w a 1 r 0 h (pow_pos w) ∙ rw (and_zero_r r, add-zero)

    go : (t : Bool) → leb limit x ≡ t → bit_and (x + (2 ^ w - limit)) (2 ^ w) ≡ flag t * 2 ^ w
    go true e = top 1 (x - limit) (omega arith) (omega (arith, leb-true limit x e))
    go false e = top 0 (x + (2 ^ w - limit)) (omega (arith, leb-false limit x e)) (omega arith)

slots-some : (n d p : ℕ) (t : ℕ → Bool) → 0 < p → ltb 0 (slots n d (λ i. flag (t i) * p)) ≡ some_below n t
unfolding slots joined tabulate some_below
slots-some zero d p t h = refl
slots-some (suc n) d p t h =
    any_add (flag (t zero) * p) (slots n d (λ i. flag (t (suc i)) * p) * 2 ^ d)
    ∙ ap₂ ◌||◌ (any_mul (flag (t zero)) p h ∙ any_flag (t zero))
    (any_mul (slots n d (λ i. flag (t (suc i)) * p)) (2 ^ d) (pow_pos d) ∙ slots-some n d p (λ i. t (suc i)) h)
  where
    any_flag : (s : Bool) → ltb 0 (flag s) ≡ s
    any_flag true = refl
    any_flag false = refl

module _ (n w limit : ℕ) (some : 0 < w) (low : limit ≤ 2 ^ w) where
  -- 1 in every slot, the mask of the even indexes, and what is added to each
  abbrev pub ones : ℕ
  ones = slots n (2 * w) (λ i. 1)

  abbrev pub even : ℕ
  even = (2 ^ w - 1) * ones

  abbrev pub rest : ℕ
  rest = (2 ^ w - limit) * ones

  -- every second index of x
  slots-large : (x : ℕ)
      → ltb 0 (bit_and (bit_and x even + rest) (2 ^ w * ones)) ≡ some_below n (λ i. leb limit (held (2 * w) w x i))
  slots-large x =
      let d = 2 * w in
      let f : ℕ → ℕ = held d w x in
      let more : 2 ^ (w + 1) ≤ 2 ^ d = pow_mono {i = w + 1} {j = d} (omega arith) in
      ap₂ (λ (p q : ℕ). ltb 0 (bit_and p q))
      (ap₂ ◌+◌ (evens n w some x) (every n d (2 ^ w - limit)) ∙ slots_add n d f (λ i. 2 ^ w - limit))
      (every n d (2 ^ w))
      ∙ ap (ltb 0)
      (slots_and n d (λ i. f i + (2 ^ w - limit)) (λ i. 2 ^ w)
      (λ i l. omega (arith, held_lt d w x i, pow-add 2 w 1)) (λ i l. omega (arith, pow_pos w, pow-add 2 w 1))
      ∙ slots-ext n d (λ i l. slot-large w limit (f i) (held_lt d w x i) low))
      ∙ slots-some n d (2 ^ w) (λ i. leb limit (f i)) (pow_pos w)

  pub sum_fits : (x : ℕ) → n * (2 * w) ≤ 64 → bit_and x even + rest < 2 ^ 64
  sum_fits x fits =
      let least : min limit (2 ^ w) ≡ limit = omega arith in
      rw (← least)
      (slots-fit n (2 * w) w limit 0 (bit_and x even) (omega arith)
      (holds_all n (2 * w) w (held (2 * w) w x) (bit_and x even) (omega arith) (λ i l. held_lt (2 * w) w x i)
      (evens n w some x)) fits)

  -- all indexes of x
  pub sums_large : (x : ℕ)
      → ltb 0 (bit_and (bit_or (bit_and x even + rest) (bit_and (x / 2 ^ w) even + rest)) (2 ^ w * ones))
      ≡ some_below (2 * n) (λ j. leb limit (x / 2 ^ (j * w) % 2 ^ w))
  sums_large x =
      let place : (i : ℕ) → i * (2 * w) ≡ 2 * i * w = λ i. rw (← mul_assoc, mul_comm i) in
      let next : (i : ℕ) → w + i * (2 * w) ≡ (2 * i + 1) * w = λ i. omega (arith, add-mul (2 * i) 1 w, place i) in
      any_masked (2 ^ w * ones) (bit_and x even + rest) (bit_and (x / 2 ^ w) even + rest)
      ∙ ap₂ ◌||◌
      (slots-large x ∙ some-ext n (λ i l. ap (λ (k : ℕ). leb limit (x / 2 ^ k % 2 ^ w)) (place i)))
      (slots-large (x / 2 ^ w)
      ∙ some-ext n
      (λ i l. ap (λ (k : ℕ). leb limit (k % 2 ^ w))
      (shr-shr x w (i * (2 * w)) ∙ ap (λ (k : ℕ). x / 2 ^ k) (next i))))
      ∙ some_halves n (λ j. leb limit (x / 2 ^ (j * w) % 2 ^ w))

-- ---- windows

-- m entries that begin at bit o of a window
pub window-some : (page : List ℕ) (m at o w limit x : ℕ) {k : ℕ} → Small 8 page → o + m * w ≤ 64
    → x ≡ number (take 8 (drop at page)) / 2 ^ o → 8 * at + o ≡ k
    → some_below m (λ j. leb limit (x / 2 ^ (j * w) % 2 ^ w))
    ≡ some_below m (λ j. leb limit (field low_first page (k + j * w) w))
window-some page m at o w limit x all fits e f =
    some-ext m (λ j l. ap (leb limit) (window-entry page m at o w x all fits e f j l))

module _ (page : List ℕ) (w limit : ℕ) where
  -- four entries, and the next four
  pub two_fours : (o : ℕ)
      → (some_below 4 (λ j. leb limit (field low_first page (o + j * w) w))
      || some_below 4 (λ j. leb limit (field low_first page (o + 4 * w + j * w) w)))
      ≡ some_below 8 (λ j. leb limit (field low_first page (o + j * w) w))
  two_fours o =
      let place : (j : ℕ) → o + 4 * w + j * w ≡ o + (4 + j) * w = λ j. omega (arith, add-mul 4 j w) in
      let t : ℕ → Bool = λ j. leb limit (field low_first page (o + j * w) w) in
      ap (λ (b : Bool). some_below 4 t || b)
      (some-ext 4 (λ j l. ap (λ (k : ℕ). leb limit (field low_first page k w)) (place j)))
      ∙ some_add 4 4 t

  -- g groups from byte `start` on, and the next, which begins at byte `at`
  pub next_group : (start g at : ℕ) → at ≡ start + g * w
      → (some_below (8 * g) (λ k. leb limit (field low_first page (8 * start + k * w) w))
      || some_below 8 (λ j. leb limit (field low_first page (8 * at + j * w) w)))
      ≡ some_below (8 * (g + 1)) (λ k. leb limit (field low_first page (8 * start + k * w) w))
  next_group start g at e =
      let place : (j : ℕ) → 8 * at + j * w ≡ 8 * start + (8 * g + j) * w =
      λ j. omega (arith, add-mul (8 * g) j w, mul_assoc 8 g w) in
      let t : ℕ → Bool = λ k. leb limit (field low_first page (8 * start + k * w) w) in
      let more : 8 * g + 8 ≡ 8 * (g + 1) = omega arith in
      ap (λ (b : Bool). some_below (8 * g) t || b)
      (some-ext 8 (λ j l. ap (λ (k : ℕ). leb limit (field low_first page k w)) (place j)))
      ∙ some_add (8 * g) 8 t
      ∙ ap (λ (k : ℕ). some_below k t) more

-- what the test for windows says: whole groups of at most sixteen bits, in windows of eight bytes within the `rest`
pub windows_hold : (w m rest : ℕ) → (ltb 0 w && leb w 16 && eqb (m % 8) 0 && leb (m / 8 * w + 8) rest) ≡ true
    → (0 < w) × (w ≤ 16) × (m % 8 ≡ 0) × (m / 8 * w + 8 ≤ rest)
windows_hold w m rest e =
    let last = both _ (leb (m / 8 * w + 8) rest) e in
    let whole = both _ (eqb (m % 8) 0) last.0 in
    let width = both (ltb 0 w) (leb w 16) whole.0 in
    (ltb-true 0 w width.0, leb-true w 16 width.1, eqb-true (m % 8) 0 whole.1, leb-true _ rest last.1)
