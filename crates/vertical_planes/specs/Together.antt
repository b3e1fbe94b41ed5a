-- While both ends have the same bits, and where they part.
use Rattle.std.specs.Prelude.{◌≡◌, refl, Bool, true, false, not, ◌&&◌, ◌||◌, List, ℕ, ◌+◌, ◌-◌, ◌/◌, ◌^◌, ◌≤◌, ◌<◌, ltb, eqb, ℤ, pos, negsuc, length, get_or}
use Rattle.std.proofs.Common.{sym, ap, ap₂, ◌∙◌, true≢false, arith, lt-ltb, le-ltb, eqb-true}
use Rattle.std.specs.Bool.{xor}
use Rattle.std.specs.Int.Bits.{bit_and, bit_or, bit_xor}
use Rattle.std.proofs.lemmas.Bool.{eqb-false}
use Rattle.rules.specs.Bits.{word}
use Rattle.rules.specs.Planes.{undecided}
use Rattle.rules.specs.Vertical.{lane}
use Rattle.words.specs.Bits.{bit_of_zero, word-ext, word_and, word_or}
use Rattle.words.specs.Bits.{word-xor, word-not, word_all}
use Rattle.words.specs.Tests.{both}
use Rattle.compare.specs.declared.bands.Band.{Band}
use Rattle.vertical_planes.specs.Ends.{below, above, bits_of, Masked}
use Rattle.vertical_planes.specs.Standing.{has, low_open, high_open, out, some_open, Standing, Within}
use Rattle.vertical_planes.specs.OnePlaneMore.{undecided-next, below_next, above-next, above_is}
use Rattle.vertical_planes.specs.BeforeThePlanes.{undecided-same}
use Rattle.vertical_planes.specs.Needed.{some_open_lem}
use Rattle.vertical_planes.specs.OneLane.{moved, out-same, open_other, out_other, xor_other, or_same}
use Rattle.vertical_planes.specs.OneLane.{xor-none, xor-some}
use Rattle.vertical_planes.specs.Words.{has_word, word-has, has-xor, laid_word, none-same, some_same}

-- an undecided lane is not below
not-below : (planes : List ℕ) (w i : ℕ) (z : ℤ) (j : ℕ) → undecided planes w i z j ≡ true
    → below planes w i z j ≡ false
unfolding undecided below
not-below planes w i (pos c) j e =
    let same : lane planes 0 i j ≡ c / 2 ^ (w - i) = eqb-true _ _ (both (ltb c (2 ^ w)) _ e).1 in
    le-ltb (lane planes 0 i j) (c / 2 ^ (w - i)) (omega arith)
not-below planes w i (negsuc c) j e = absurd (true≢false (sym e))

-- each of the lanes `alike` is undecided against both ends, and the others are outside
pub record Together (planes : List ℕ) (band : Band) (i alike : ℕ) : Type 0 where
  pub few : i ≤ length planes
  pub alike_is : alike ≡ word 64 (low_open planes band i)
  pub same : (j : ℕ) → high_open planes band i j ≡ low_open planes band i j
  pub rest : (j : ℕ) → out planes band i j ≡ not (low_open planes band i j)
  pub needed : (k : ℕ) → k < i → some_open planes band k ≡ true

-- so it is for any band whose bits are laid out
abbrev pub Turned : List ℕ → List ℕ → List ℕ → ℕ → ℕ → Type 0
Turned planes lows apart i alike =
    (band : Band) → Masked lows apart (length planes) band → Within planes band → Together planes band i alike

-- before the first plane
pub together_none : (planes : List ℕ) (band : Band) → Within planes band → Together planes band 0 (2 ^ 64 - 1)
together_none planes band (l, h) =
    let w = length planes in
    let lo : (j : ℕ) → low_open planes band 0 j ≡ true = λ j. undecided-same planes w band.low j 0 ∙ l in
    let hi : (j : ℕ) → high_open planes band 0 j ≡ true = λ j. undecided-same planes w band.high j 0 ∙ h in
    record {
      few = omega arith;
      alike_is = sym (word_all 64) ∙ word-ext 64 (λ j _. sym (lo j));
      same = λ j. hi j ∙ sym (lo j);
      rest = λ j.
          let low = not-below planes w 0 band.low j (lo j) in
          let high = not-below planes w 0 band.high j (hi j) in
          rw (above_is planes w 0 (omega arith) band.high j, low, high, lo j, hi j);
      needed = λ k h. absurd (omega arith);
    }

module _ (planes : List ℕ) (band : Band) (i alike : ℕ) (t : Together planes band i alike) where
  alike-open : alike ≡ word 64 (λ j. low_open planes band i j || high_open planes band i j)
  alike-open = t.alike_is ∙ word-ext 64 (λ j _. rw (t.same j) (sym (or_same (low_open planes band i j))))

  -- some lane is undecided before the next plane too
  needed-next : 0 < alike → (k : ℕ) → k < i + 1 → some_open planes band k ≡ true
  needed-next some k h = go (eqb k i) refl
    where
      go : (u : Bool) → eqb k i ≡ u → some_open planes band k ≡ true
      go true e = rw (eqb-true k i e, ← some_open_lem planes band i, ← alike-open) (lt-ltb 0 alike some)
      go false e = t.needed k (omega (arith, eqb-false k i e))

  -- no lane is undecided, or no plane is left
  pub together_told : (i < length planes → alike ≡ 0) → Standing planes band
      (record { undecided = alike; upper = 0; outside = 2 ^ 64 - 1 - alike; taken = i })
  together_told end =
      record {
        few = t.few;
        open_is = alike-open;
        out_is = rw t.alike_is (word-not 64 _ ∙ word-ext 64 (λ j _. sym (t.rest j)));
        sided = λ more j l.
            let none : has alike j ≡ false = rw (end more, bit_of_zero j) in
            let decided : low_open planes band i j ≡ false =
            sym (has_word (low_open planes band i) j l) ∙ rw (← t.alike_is) none in
            rw (t.same j, decided, none) (refl, refl);
        needed = t.needed;
      }

-- ---- one plane more

module _ (planes lows apart : List ℕ) (band : Band) (masked : Masked lows apart (length planes) band)
    (i alike : ℕ) (more : i < length planes) (small : get_or planes i 0 < 2 ^ 64) (some : 0 < alike)
    (t : Together planes band i alike) where
  -- the lanes undecided so far, the plane's bits, and the ends'
  abbrev e : ℕ → Bool
  e = low_open planes band i

  abbrev x : ℕ → Bool
  x = has (get_or planes i 0)

  abbrev lowBit : Bool
  lowBit = has (bits_of band.low) (length planes - 1 - i)

  abbrev highBit : Bool
  highBit = has (bits_of band.high) (length planes - 1 - i)

  -- and where the lanes have another than the low end
  abbrev other : ℕ
  other = bit_xor (get_or planes i 0) (get_or lows i 0)

  low_word : get_or lows i 0 ≡ word 64 (λ _. lowBit)
  low_word = masked.0 i more ∙ laid_word _ _

  other_word : other ≡ word 64 (λ j. xor (x j) lowBit)
  other_word = ap₂ bit_xor (word-has _ small) low_word ∙ word-xor 64 _ _

  apart-word : get_or apart i 0 ≡ word 64 (λ _. xor lowBit highBit)
  apart-word = masked.1 i more ∙ laid_word _ _ ∙ word-ext 64 (λ j _. has-xor _ _ _)

  low-next : (j : ℕ) → low_open planes band (i + 1) j ≡ (e j && not (xor (x j) lowBit))
  low-next j = undecided-next planes (length planes) i more band.low j

  high-next : (j : ℕ) → high_open planes band (i + 1) j ≡ (e j && not (xor (x j) highBit))
  high-next j = undecided-next planes (length planes) i more band.high j ∙ rw (t.same j)

  out-next : (j : ℕ) → out planes band (i + 1) j
      ≡ (not (e j) || ((not (x j) && lowBit) || (x j && not highBit)))
  out-next j =
      let w = length planes in
      rw (below_next planes w i more band.low j, above-next planes w i more band.high j, t.same j)
      (moved (below planes w i band.low j) (above planes w i band.high j) (e j) (x j) lowBit highBit
      (t.rest j))

  -- the ends have the same bit
  pub together_next : get_or apart i 0 ≡ 0 → Together planes band (i + 1) (bit_and alike (2 ^ 64 - 1 - other))
  together_next none =
      let same : highBit ≡ lowBit = xor-none _ _ (none-same _ (sym apart-word ∙ none)) in
      record {
        few = omega arith;
        alike_is = ap₂ bit_and t.alike_is (ap (λ (x : ℕ). 2 ^ 64 - 1 - x) other_word ∙ word-not 64 _)
            ∙ word_and 64 _ _ ∙ word-ext 64 (λ j _. sym (low-next j));
        same = λ j. rw (high-next j, low-next j, same);
        rest = λ j. rw (out-next j, low-next j, same) (out-same (e j) (x j) lowBit);
        needed = needed-next planes band i alike t some;
      }

  -- they part
  pub parted : (get_or apart i 0 ≡ 0 → ⊥) → Standing planes band
      (record {
        undecided = alike;
        upper = other;
        outside = bit_or (2 ^ 64 - 1 - alike) (get_or lows i 0);
        taken = i + 1;
      })
  parted other-bit =
      let apart : highBit ≡ not lowBit = xor-some _ _ (some_same _ (λ e. other-bit (apart-word ∙ e))) in
      record {
        few = omega arith;
        open_is = t.alike_is
            ∙ word-ext 64 (λ j _. rw (low-next j, high-next j, apart) (sym (open_other (e j) (x j) lowBit)));
        out_is = ap₂ bit_or (ap (λ (x : ℕ). 2 ^ 64 - 1 - x) t.alike_is ∙ word-not 64 _) low_word
            ∙ word_or 64 _ _
            ∙ word-ext 64 (λ j _. rw (out-next j, apart) (sym (out_other (e j) (x j) lowBit)));
        sided = λ _ j l.
            rw (t.alike_is, other_word, has_word _ j l, has_word _ j l, low-next j, high-next j)
            (rw (apart, xor_other) (refl, refl));
        needed = needed-next planes band i alike t some;
      }
