-- A page's entries in windows of eight bytes, tested as numbers of the window's word.
use Rattle.std.specs.Prelude.{◌≡◌, ℕ, ◌+◌, ◌*◌, ◌/◌, ◌%◌, ◌^◌, ◌<◌, ◌≤◌, Bool, List, take, drop}
use Rattle.std.proofs.Common.{sym, ap, ◌∙◌, add-mul, div-one, mod-eq_of_lt, arith, shr-shr}
use Rattle.rules.specs.Bits.{flag, word, number, field}
use Rattle.rules.specs.Bits.Order.{low_first}
use Rattle.words.specs.Bits.{word-ext, word_add}
use Rattle.words.specs.Joined.{Small}
use Rattle.words.specs.Entries.{window, place-within}
use Rattle.compare.specs.Range.{inside}
use Rattle.packed_kernels.specs.Slots.{slots, slots-ext}
use Rattle.packed_kernels.specs.SlotTests.{tested}

-- of m entries that begin at bit o of a window, the j-th
pub window-entry : (page : List ℕ) (m at o w x : ℕ) {k : ℕ} → Small 8 page → o + m * w ≤ 64
    → x ≡ number (take 8 (drop at page)) / 2 ^ o → 8 * at + o ≡ k
    → (j : ℕ) → j < m → x / 2 ^ (j * w) % 2 ^ w ≡ field low_first page (k + j * w) w
window-entry page m at o w x {k} all fits e f j l =
    ap (λ (y : ℕ). y / 2 ^ (j * w) % 2 ^ w) e
    ∙ ap (λ (y : ℕ). y % 2 ^ w) (shr-shr (number (take 8 (drop at page))) o (j * w))
    ∙ window page at 8 (o + j * w) w all (omega (arith, place-within w j m l))
    ∙ ap (λ (i : ℕ). field low_first page i w) (omega arith)

-- and the tests of all of them
pub window_tests : (page : List ℕ) (m at o w lo hi x : ℕ) {k : ℕ} → Small 8 page → o + m * w ≤ 64
    → x ≡ number (take 8 (drop at page)) / 2 ^ o → 8 * at + o ≡ k
    → word m (tested lo hi w x) ≡ word m (λ j. inside lo hi (field low_first page (k + j * w) w))
unfolding tested
window_tests page m at o w lo hi x all fits e f =
    word-ext m (λ j l. ap (inside lo hi) (window-entry page m at o w x all fits e f j l))

-- four entries, and the next four
pub two_fours : (page : List ℕ) (o w lo hi : ℕ)
    → word 4 (λ j. inside lo hi (field low_first page (o + j * w) w))
    + word 4 (λ j. inside lo hi (field low_first page (o + 4 * w + j * w) w)) * 16
    ≡ word 8 (λ j. inside lo hi (field low_first page (o + j * w) w))
two_fours page o w lo hi =
    let t : ℕ → Bool = λ j. inside lo hi (field low_first page (o + j * w) w) in
    let place : (j : ℕ) → o + 4 * w + j * w ≡ o + (4 + j) * w = λ j. omega (arith, add-mul 4 j w) in
    ap (λ (x : ℕ). word 4 t + x * 16)
    (word-ext 4 (λ j l. ap (λ (k : ℕ). inside lo hi (field low_first page k w)) (place j)))
    ∙ sym (word_add 4 4 t)

-- two entries, from the k-th on
pub two_from : (d : ℕ) (page : List ℕ) (o w lo hi k b : ℕ) → b ≡ o + k * w
    → slots 2 d (λ i. flag (inside lo hi (field low_first page (b + i * w) w)))
    ≡ slots 2 d (λ i. flag (inside lo hi (field low_first page (o + (k + i) * w) w)))
two_from d page o w lo hi k b e =
    slots-ext 2 d
    (λ i l. ap (λ (j : ℕ). flag (inside lo hi (field low_first page j w))) (omega (arith, add-mul k i w)))

-- four bytes are an entry of 32 bits
pub whole-entry : (page : List ℕ) (at k x : ℕ) → Small 8 page → x < 2 ^ 32
    → x ≡ number (take 4 (drop (at + 4 * k) page)) → x ≡ field low_first page (8 * at + k * 32) 32
whole-entry page at k x all small e =
    sym (mod-eq_of_lt small)
    ∙ ap (λ (y : ℕ). y % 2 ^ 32) (e ∙ sym (div-one (number (take 4 (drop (at + 4 * k) page)))))
    ∙ window page (at + 4 * k) 4 0 32 all (omega arith)
    ∙ ap (λ (i : ℕ). field low_first page i 32) (omega arith)
