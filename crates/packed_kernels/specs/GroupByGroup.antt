-- A group more: eight tests are a byte, turned or not.
use Rattle.std.specs.Prelude.{◌≡◌, ℕ, zero, suc, ◌+◌, ◌*◌, ◌%◌, ◌<◌, Bool, true, false, ltb, List, length, bit_and, bit_xor, nat_lt, slice_set, refl}
use Rattle.std.proofs.Common.{ap, ap₂, ◌∙◌, add-mul, mul_assoc, mod-eq_of_lt, arith, lt-ltb}
use Rattle.std.specs.Int.Bits.{xor_zero_r, xor_add_and}
use Rattle.std.proofs.lemmas.Nat.{and_mask}
use mir.Val.{bool_byte}
use Rattle.rules.specs.Bits.{flag, word, bytes, put, field}
use Rattle.rules.specs.Bits.Order.{low_first}
use Rattle.rules.specs.Bitmap.{bitmap}
use Rattle.words.specs.Bits.{word_lt, word-ext, word-not}
use Rattle.words.specs.Puts.{put-none}
use Rattle.bitmaps.specs.Bitmaps.{next_byte}
use Rattle.compare.specs.Band.{turned}
use Rattle.compare.specs.Range.{inside, ranged}
use Rattle.packed_kernels.specs.Selected.{selected, ranging}

-- eight tests, each with its weight, are a word of them
pub eight_flags : (test : ℕ → Bool)
    → flag (test 0) + flag (test 1) * 2 + flag (test 2) * 4 + flag (test 3) * 8 + flag (test 4) * 16
    + flag (test 5) * 32 + flag (test 6) * 64 + flag (test 7) * 128 ≡ word 8 test
unfolding word
eight_flags test = omega arith

-- a byte of tests, or its complement
turned_byte : (f : ℕ → Bool) (outside : Bool)
    → bit_xor (word 8 f) (bool_byte outside * 255) ≡ word 8 (λ j. turned outside (f j))
turned_byte f false = xor_zero_r (word 8 f)
turned_byte f true =
    let all : bit_and (word 8 f) 255 ≡ word 8 f = and_mask (word 8 f) 8 ∙ mod-eq_of_lt (word_lt 8 f) in
    omega (arith, xor_add_and (word 8 f) 255, word-not 8 f, word_lt 8 f)

-- 0 or 255, by a test
whole_byte : (flip : ℕ) → flip < 256 → flip % 255 ≡ 0 → flip ≡ bool_byte (nat_lt 0 flip) * 255
whole_byte zero h e = refl
whole_byte (suc k) h e = rw (lt-ltb 0 (suc k) (omega arith)) (omega arith)

-- nothing is selected yet
pub none-selected : (l page : List ℕ) (w : ℕ) (test : ℕ → Bool) → l ≡ put l 0 (selected page (8 * 0) w test)
unfolding selected bitmap bytes
none-selected l page w test = put-none l 0

-- the byte of group g, of the eight entries from byte g × w on
pub next-selected : (l page : List ℕ) (g w low span flip x : ℕ) → g < length l → flip < 256 → flip % 255 ≡ 0
    → x ≡ word 8 (λ j. inside low (low + span) (field low_first page (8 * (g * w) + j * w) w))
    → slice_set (put l 0 (selected page (8 * g) w (ranging low span flip))) g (bit_xor x flip)
    ≡ put l 0 (selected page (8 * (g + 1)) w (ranging low span flip))
unfolding selected ranged
next-selected l page g w low span flip x h small whole e =
    let outside : Bool = ltb 0 flip in
    let test : ℕ → Bool = λ k. turned outside (inside low (low + span) (field low_first page k w)) in
    let places : (j : ℕ) → 8 * (g * w) + j * w ≡ (8 * g + j) * w = λ j. rw (add-mul, mul_assoc) in
    let same : bit_xor x flip ≡ word 8 (λ j. test ((8 * g + j) * w)) =
    ap₂ bit_xor e (whole_byte flip small whole)
    ∙ turned_byte (λ j. inside low (low + span) (field low_first page (8 * (g * w) + j * w) w)) outside
    ∙ word-ext 8 (λ j l. ap test (places j)) in
    next_byte l g (bit_xor x flip) (λ i. test (i * w)) h same
