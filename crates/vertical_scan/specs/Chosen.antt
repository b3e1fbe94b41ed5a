-- The entries of a column that a band selects, group after group.
use Rattle.std.specs.Prelude.{◌≡◌, true, false, List, ℕ, ◌+◌, ◌-◌, ◌*◌, ◌%◌, ◌^◌, ◌≤◌, ◌<◌, pos, length}
use Rattle.std.proofs.Common.{ap, ◌∙◌, arith}
use Rattle.std.proofs.Math.Path.{ap₂}
use Rattle.rules.specs.Bits.{ceil, word, bytes, put}
use Rattle.rules.specs.Bitmap.{bitmap}
use Rattle.rules.specs.Comparison.{between}
use Rattle.rules.specs.Vertical.{lane, entry}
use Rattle.words.specs.Bits.{word_lt, word-ext, word-not, word_mod}
use Rattle.words.specs.Puts.{put-none}
use Rattle.bitmaps.specs.Bitmaps.{next_word}
use Rattle.compare.specs.Band.{banded}
use Rattle.compare.specs.declared.bands.Band.{Band}

-- as a bitmap of the first n
unfoldable pub chosen : List ℕ → ℕ → ℕ → Band → List ℕ
chosen words n w band = bitmap n (λ i. banded band (pos (entry words w i)))

-- as a word, of one group whose first plane is word `at`
unfoldable pub lanes64 : List ℕ → ℕ → ℕ → Band → ℕ
lanes64 words at w band = word 64 (λ j. banded band (pos (lane words at w j)))

-- inside, or where the band is turned outside
pub lanes_inside : (words : List ℕ) (at w x : ℕ) (band : Band) → band.outside ≡ false
    → x ≡ word 64 (λ j. between band.low band.high (pos (lane words at w j))) → x ≡ lanes64 words at w band
unfolding lanes64 banded
lanes_inside words at w x band o e = rw o e

pub lanes_outside : (words : List ℕ) (at w x : ℕ) (band : Band) → band.outside ≡ true
    → x ≡ word 64 (λ j. between band.low band.high (pos (lane words at w j)))
    → 2 ^ 64 - 1 - x ≡ lanes64 words at w band
unfolding lanes64 banded
lanes_outside words at w x band o e =
    ap (λ (y : ℕ). 2 ^ 64 - 1 - y) e ∙ word-not 64 (λ j. between band.low band.high (pos (lane words at w j)))
    ∙ rw o

module _ (l words : List ℕ) (w : ℕ) (band : Band) where
  pub none-chosen : l ≡ put l 0 (chosen words (64 * 0) w band)
  unfolding chosen bitmap bytes
  none-chosen = put-none l 0

  -- the first r lanes of group g are its entries
  lanes-entries : (g r : ℕ) → r ≤ 64
      → lanes64 words (g * w) w band % 2 ^ r ≡ word r (λ k. banded band (pos (entry words w (64 * g + k))))
  unfolding lanes64
  lanes-entries g r h =
      word_mod r 64 (λ j. banded band (pos (lane words (g * w) w j))) h
      ∙ word-ext r (λ k l. ap₂ (λ (i j : ℕ). banded band (pos (lane words (i * w) w j))) (omega arith) (omega arith))

  -- group g's word, or the part of it that n reaches
  pub next-chosen : (g r x : ℕ) → r ≤ 64 → 8 * g + ceil r 8 ≤ length l → x ≡ lanes64 words (g * w) w band % 2 ^ r
      → put (put l 0 (chosen words (64 * g) w band)) (8 * g) (bytes (ceil r 8) x)
      ≡ put l 0 (chosen words (64 * g + r) w band)
  unfolding chosen
  next-chosen g r x small h e =
      next_word l g r x (λ i. banded band (pos (entry words w i))) h (e ∙ lanes-entries g r small)

pub lanes_lt : (words : List ℕ) (at w : ℕ) (band : Band) → lanes64 words at w band < 2 ^ 64
unfolding lanes64
lanes_lt words at w band = word_lt 64 (λ j. banded band (pos (lane words at w j)))
