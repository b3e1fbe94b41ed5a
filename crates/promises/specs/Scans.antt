-- What every scan promises, over its first fault, its count of entries n and its test of entry i.
use Rattle.std.specs.Prelude.{◌≡◌, refl, Bool, List, ℕ, zero, suc, ◌+◌, ◌*◌, ◌/◌, ◌%◌, ◌^◌, ◌≤◌, ◌<◌, take, drop}
use Rattle.std.proofs.Common.{sym, ap, ap₂, ◌∙◌, lt_of_lt_of_le, add-zero, add-one, arith, get_or-take, pow_mono}
use Rattle.std.proofs.Math.Nat.{div-eq_of_lt}
use Rattle.rules.specs.Bits.{ceil, flag, bit, word, bytes, bit_of, bit_at, put}
use Rattle.rules.specs.Bits.Order.{low_first}
use Rattle.rules.specs.Bitmap.{bitmap, tally}
use Rattle.rules.specs.Answer.{answered, scanned}
use Rattle.rules.specs.Answer.Outcome.{outcome}
use Rattle.rules.specs.declared.Answer.{Answer}
use Rattle.words.specs.Bits.{word_lt, word_add}
use Rattle.bitmaps.specs.Counts.{count_ones}
use Rattle.bitmaps.specs.Bitmaps.{length-bitmap, bit-number, bit-bitmap, count-bitmap}
use Rattle.promises.specs.Fronts.{front, behind}
use Rattle.promises.specs.Promise.{Promise, promise}

-- the bitmap of a scan that is accepted, and its number
pub record Selects (n : ℕ) (test : ℕ → Bool) (before after : List ℕ) (number : ℕ) : Type 0 where
  -- bit i of the bitmap, bit i mod 8, lowest first, of byte i div 8, is set exactly when entry i passes
  pub bit-set : (i : ℕ) → i < n → bit_at low_first 8 after i ≡ flag (test i)
  -- a scan of n entries writes ceil(n/8) bytes; unused bits of the last are 0
  pub unused_clear : (i : ℕ) → n ≤ i → i < 8 * ceil n 8 → bit_at low_first 8 after i ≡ 0
  -- the count is the number of set bits in the bitmap
  pub counted : number ≡ count_ones (take (ceil n 8) after)
  -- and that is how many of the n entries pass
  pub tallied : number ≡ tally n test
  -- later bytes stay
  pub later-kept : drop (ceil n 8) after ≡ drop (ceil n 8) before

-- a bit of some bytes is that bit of the first k, if it lies there
pub bit-front : (k : ℕ) (l : List ℕ) (i : ℕ) → i < 8 * k → bit_at low_first 8 l i ≡ bit_at low_first 8 (take k l) i
unfolding bit_at bit_of
bit-front k l i h = ap (λ (x : ℕ). bit x (i % 8)) (sym (get_or-take k l (i / 8) 0 (omega arith)))

-- a number of n bits has no bit from n on
bit_past : (n x i : ℕ) → x < 2 ^ n → n ≤ i → bit x i ≡ 0
unfolding bit
bit_past n x i h l = rw (div-eq_of_lt (lt_of_lt_of_le h (pow_mono {i = n} {j = i} l)))

pub scan-promise : (fault n : ℕ) (test : ℕ → Bool) (before : List ℕ) {after : List ℕ} {r : Answer}
    → outcome r after ≡ scanned fault n test before
    → Promise fault before after r (Selects n test before after r.number)
scan-promise fault n test before {after} {r} = promise fault (tally n test) (bitmap n test) before gives
  where
    gives : r.number ≡ tally n test → after ≡ put before 0 (bitmap n test) → Selects n test before after r.number
    gives number wrote =
        let bytes : take (ceil n 8) after ≡ bitmap n test =
        ap (take (ceil n 8)) wrote ∙ front before (bitmap n test) (ceil n 8) (length-bitmap n test) in
        let bits : (i : ℕ) → i < 8 * ceil n 8 → bit_at low_first 8 after i ≡ bit_at low_first 8 (bitmap n test) i =
        λ i h. bit-front (ceil n 8) after i h ∙ ap (λ (l : List ℕ). bit_at low_first 8 l i) bytes in
        record {
          bit-set = λ i h. bits i (omega arith) ∙ bit-bitmap n test i h;
          unused_clear = λ i h l. bits i l ∙ bit-number n test i ∙ bit_past n (word n test) i (word_lt n test) h;
          counted = number ∙ sym (ap count_ones bytes ∙ count-bitmap n test);
          tallied = number;
          later-kept = ap (drop (ceil n 8)) wrote ∙ behind before (bitmap n test) (ceil n 8) (length-bitmap n test);
        }

-- a comparison of one entry after another: entry n's bit is put behind those of the entries before it
unfoldable pub in_turn : ℕ → (ℕ → Bool) → ℕ
in_turn zero test = 0
in_turn (suc n) test = in_turn n test + flag (test n) * 2 ^ n

in_turn_lem : (n : ℕ) (test : ℕ → Bool) → word n test ≡ in_turn n test
unfolding in_turn word
in_turn_lem zero test = refl
in_turn_lem (suc n) test =
    let one : word 1 (λ k. test (n + k)) ≡ flag (test n) =
    omega (arith, ap (λ (k : ℕ). flag (test k)) (add-zero n)) in
    ap (λ (m : ℕ). word m test) (sym (add-one n)) ∙ word_add n 1 test
    ∙ ap₂ (λ (x y : ℕ). x + y * 2 ^ n) (in_turn_lem n test) one

-- a scan over 64 entries at once answers as a comparison of one entry after another does
pub one-after_another : (fault n : ℕ) (test : ℕ → Bool) (before : List ℕ)
    → scanned fault n test before ≡ answered fault (tally n test) (bytes (ceil n 8) (in_turn n test)) before
unfolding bitmap
one-after_another fault n test before =
    ap (λ (x : ℕ). answered fault (tally n test) (bytes (ceil n 8) x) before) (in_turn_lem n test)
