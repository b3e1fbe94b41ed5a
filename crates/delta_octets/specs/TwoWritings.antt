-- The two ways of writing entries: their tests into the bitmap, and they themselves into places.
use Rattle.std.specs.Prelude.{◌≡◌, ℕ, ◌+◌, ◌*◌, ◌/◌, ◌%◌, ◌^◌, ◌<◌, ◌≤◌, Bool, List, [], ◌∷◌, length, ℤ, slice_set}
use Rattle.std.proofs.Common.{sym, ap₂, ◌∙◌, add-one, arith}
use Rattle.std.proofs.Math.Path.{ap}
use mir.Val.{bool_byte}
use Rattle.rules.specs.Bits.{ceil, flag, word, put, tabulate}
use Rattle.rules.specs.Bitmap.{bitmap}
use Rattle.rules.specs.Signed.{signed}
use Rattle.words.specs.Bits.{byte_flag}
use Rattle.words.specs.Puts.{set-put}
use Rattle.words.specs.Tabulated.{tabulate-none, tabulate-ext, put-tabulate_on, put-tabulate_at}
use Rattle.bitmaps.specs.Bitmaps.{bitmap-ext, bitmap-none, put-bitmap_on, bitmap_byte}
use Rattle.signed.specs.Reached.{reached}
use Rattle.delta_octets.specs.EntryByEntry.{Passed, Starts, Grows}

-- ---- k entries into the bitmap, from the byte of entry i on

abbrev pub selects : (ℕ → Bool) → ℕ → ℕ → (ℕ → ℕ) → List ℕ → List ℕ
selects test i k value out = put out (i / 8) (bitmap k (λ j. test (value j)))

module _ (test : ℕ → Bool) (i : ℕ) (out : List ℕ) where
  pub selects-none : Starts (selects test) i out
  selects-none f = bitmap-none out (i / 8) (λ j. test (f j))

  pub selects-more : (size : ℕ) → i % 8 ≡ 0 → ceil (i + size) 8 ≤ length out → Grows (selects test) i size out
  selects-more size first room k m f g whole fits same =
      let F : ℕ → Bool = λ j. test (f j) in
      let a : ℕ = k / 8 in
      let u : List ℕ = put out (i / 8) (bitmap k F) in
      let e : 8 * a ≡ k = omega arith in
      let at : (i + k) / 8 ≡ i / 8 + a = omega arith in
      ap (put u ((i + k) / 8)) (bitmap-ext m (λ j h. ap test (same j h)))
      ∙ rw at (rw e at (put-bitmap_on out (i / 8) a m F (omega arith)))

  -- one to eight entries are one byte
  pub selects_byte : (k x : ℕ) (value : ℕ → ℕ) → i / 8 < length out → 0 < k → k ≤ 8 → x ≡ word k (λ j. test (value j))
      → slice_set out (i / 8) x ≡ selects test i k value out
  selects_byte k x value room some few e =
      set-put out (i / 8) x room ∙ ap (λ (y : ℕ). put out (i / 8) (y ∷ [])) e
      ∙ ap (put out (i / 8)) (sym (bitmap_byte k (λ j. test (value j)) some few))

  -- and one entry, its test
  pub selects-bit : (x : ℕ) (t : Bool) → i / 8 < length out → t ≡ test x
      → slice_set out (i / 8) (bool_byte t) ≡ selects test i 1 (λ _. x) out
  unfolding word
  selects-bit x t room e =
      selects_byte 1 (bool_byte t) (λ _. x) room (omega arith) (omega arith) (byte_flag t ∙ ap flag e ∙ omega arith)

-- ---- k entries into places, from place i on

abbrev pub places : ℕ → ℕ → ℕ → (ℕ → ℕ) → List ℤ → List ℤ
places W i k value out = put out i (tabulate k (λ j. signed W (value j)))

module _ (W i : ℕ) (out : List ℤ) where
  pub places-none : Starts (places W) i out
  places-none f = tabulate-none out i (λ j. signed W (f j))

  pub places-more : (size : ℕ) → i + size ≤ length out → Grows (places W) i size out
  places-more size room k m f g whole fits same =
      let F : ℕ → ℤ = λ j. signed W (f j) in
      ap (put (put out i (tabulate k F)) (i + k))
      (tabulate-ext m (λ j. signed W (g j)) (λ j. F (k + j)) (λ j h. ap (signed W) (same j h)))
      ∙ put-tabulate_on out i k m F (omega arith)

  -- one entry
  pub places-one : (x : ℕ) (v : ℤ) → i < length out → v ≡ signed W x → slice_set out i v ≡ places W i 1 (λ _. x) out
  unfolding tabulate
  places-one x v room e = set-put out i v room ∙ ap (λ (z : ℤ). put out i (z ∷ [])) e

-- j entries from place i on, and then one more
pub places-next : (W x₀ : ℕ) (d : ℕ → ℕ) (i : ℕ) (out₀ : List ℤ) (j x x' : ℕ) (out : List ℤ) (v : ℤ)
    → i + j < length out₀
    → Passed (places W) W x₀ d i out₀ j x out → v ≡ signed W x → x' ≡ (x + d j) % 2 ^ W
    → Passed (places W) W x₀ d i out₀ (j + 1) x' (slice_set out (i + j) v)
unfolding reached
places-next W x₀ d i out₀ j x x' out v room p e next =
    record {
      entry = next ∙ rw (p.entry, add-one);
      wrote =
          ap₂ (λ (o : List ℤ) (z : ℤ). slice_set o (i + j) z) p.wrote (e ∙ ap (signed W) p.entry)
          ∙ put-tabulate_at out₀ i j (λ k. signed W (reached W x₀ d k)) room;
    }
