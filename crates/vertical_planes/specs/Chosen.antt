-- The entries of a column that a band selects, group after group.
use Rattle.std.specs.Prelude.{◌≡◌, refl, List, ℕ, ◌+◌, ◌-◌, ◌*◌, ◌%◌, ◌^◌, ◌≤◌, ◌<◌, pos, length, take, drop}
use Rattle.std.proofs.Common.{sym, ap, ◌∙◌, mod-eq_of_lt, arith, length-drop, length-take-le}
use Rattle.std.proofs.Math.Path.{ap₂}
use Rattle.rules.specs.Bits.{ceil, word, bytes, put}
use Rattle.rules.specs.Bitmap.{bitmap}
use Rattle.rules.specs.Vertical.{lane, entry}
use Rattle.words.specs.Bits.{word_lt, word-ext, word_mod}
use Rattle.words.specs.Puts.{put-none}
use Rattle.bitmaps.specs.Bitmaps.{next_word}
use Rattle.compare.specs.Band.{banded}
use Rattle.compare.specs.declared.bands.Band.{Band}
use Rattle.vertical_compare.specs.Lanes.{lane_part}
use Rattle.vertical_planes.specs.Standing.{band_compared}

-- as a bitmap of the first n
unfoldable pub chosen : List ℕ → ℕ → ℕ → Band → List ℕ
chosen words n w band = bitmap n (λ i. banded band (pos (entry words w i)))

-- as a word, of one group whose first plane is word `at`
unfoldable pub lanes64 : List ℕ → ℕ → ℕ → Band → ℕ
lanes64 words at w band = word 64 (λ j. banded band (pos (lane words at w j)))

-- the words from `from` up to `to` lent by themselves are the planes of one group
pub part_length : (words : List ℕ) (from to w : ℕ) → to - from ≡ w → from + w ≤ length words
    → length (take (to - from) (drop from words)) ≡ w
part_length words from to w size h = rw size (length-take-le w (drop from words) (rw length-drop (omega arith)))

pub part_bits : (words : List ℕ) (from to w : ℕ) (band : Band) → to - from ≡ w → from + w ≤ length words
    → (band_compared (take (to - from) (drop from words)) band).bits ≡ lanes64 words from w band
unfolding lanes64
part_bits words from to w band size h =
    rw (part_length words from to w size h, size)
    (word-ext 64 (λ j l. ap (λ (x : ℕ). banded band (pos x)) (lane_part words from w j)))

lanes_lt : (words : List ℕ) (at w : ℕ) (band : Band) → lanes64 words at w band < 2 ^ 64
unfolding lanes64
lanes_lt words at w band = word_lt 64 (λ j. banded band (pos (lane words at w j)))

module _ (l words : List ℕ) (w : ℕ) (band : Band) where
  pub none-chosen : l ≡ put l 0 (chosen words (64 * 0) w band)
  unfolding chosen bitmap bytes
  none-chosen = put-none l 0

  -- the first r lanes of group g are its entries
  lanes-entries : (g r : ℕ) → r ≤ 64
      → lanes64 words (g * w) w band % 2 ^ r ≡ word r (λ k. banded band (pos (entry words w (64 * g + k))))
  unfolding lanes64
  lanes-entries g r h =
      word_mod r 64 (λ j. banded band (pos (lane words (g * w) w j))) h
      ∙ word-ext r (λ k l. ap₂ (λ (i j : ℕ). banded band (pos (lane words (i * w) w j))) (omega arith) (omega arith))

  -- group g's word, or the part of it that n reaches
  pub next-chosen : (g r x : ℕ) → r ≤ 64 → 8 * g + ceil r 8 ≤ length l → x ≡ lanes64 words (g * w) w band % 2 ^ r
      → put (put l 0 (chosen words (64 * g) w band)) (8 * g) (bytes (ceil r 8) x)
      ≡ put l 0 (chosen words (64 * g + r) w band)
  unfolding chosen
  next-chosen g r x small h e =
      next_word l g r x (λ i. banded band (pos (entry words w i))) h (e ∙ lanes-entries g r small)

  -- a whole group's
  pub next_group : (g h at x : ℕ) → h ≡ g + 1 → at ≡ g * w → 8 * h ≤ length l → x ≡ lanes64 words at w band
      → put (put l 0 (chosen words (64 * g) w band)) (8 * g) (bytes 8 x) ≡ put l 0 (chosen words (64 * h) w band)
  next_group g h at x next place room e =
      let more : 64 * g + 64 ≡ 64 * h = omega arith in
      next-chosen g 64 x (omega arith) (omega arith)
      (e ∙ ap (λ (k : ℕ). lanes64 words k w band) place ∙ sym (mod-eq_of_lt (lanes_lt words (g * w) w band)))
      ∙ ap (λ (k : ℕ). put l 0 (chosen words k w band)) more

  -- and those of four
  pub next_four : (g a b c d : ℕ) → 8 * (g + 4) ≤ length l
      → a ≡ lanes64 words (g * w) w band → b ≡ lanes64 words (g * w + w) w band
      → c ≡ lanes64 words (g * w + w + w) w band → d ≡ lanes64 words (g * w + w + w + w) w band
      → put (put (put (put (put l 0 (chosen words (64 * g) w band)) (8 * g) (bytes 8 a)) (8 * (g + 1)) (bytes 8 b))
      (8 * (g + 2)) (bytes 8 c)) (8 * (g + 3)) (bytes 8 d)
      ≡ put l 0 (chosen words (64 * (g + 4)) w band)
  next_four g a b c d room ea eb ec ed =
      ap (λ x. put (put (put x (8 * (g + 1)) (bytes 8 b)) (8 * (g + 2)) (bytes 8 c)) (8 * (g + 3)) (bytes 8 d))
      (next_group g (g + 1) (g * w) a refl refl (omega arith) ea)
      ∙ ap (λ x. put (put x (8 * (g + 2)) (bytes 8 c)) (8 * (g + 3)) (bytes 8 d))
      (next_group (g + 1) (g + 2) (g * w + w) b (omega arith) (omega arith) (omega arith) eb)
      ∙ ap (λ x. put x (8 * (g + 3)) (bytes 8 d))
      (next_group (g + 2) (g + 3) (g * w + w + w) c (omega arith) (omega arith) (omega arith) ec)
      ∙ next_group (g + 3) (g + 4) (g * w + w + w + w) d (omega arith) (omega arith) (omega arith) ed
