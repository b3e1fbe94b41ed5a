-- Two groups that are alike in the planes taken of the first: as many are taken of both, and they get the same
-- bits.
use Rattle.std.specs.Prelude.{◌≡◌, Bool, ℕ, ◌+◌, ◌≤◌, ℤ, pos, negsuc, length, take, get_or}
use Rattle.std.proofs.Math.Path.{refl, ap, ap₂}
use Rattle.std.proofs.Common.{sym, ◌∙◌, arith, get_or-take}
use Rattle.std.proofs.Math.Bool.{not, ◌||◌}
use mathlib.Core.List.{List, [], ◌∷◌}
use Rattle.rules.specs.Planes.{undecided, some_undecided, planes_taken}
use Rattle.rules.specs.Vertical.{lane}
use Rattle.words.specs.Bits.{word-ext}
use Rattle.words.specs.LeastBelow.{least-alike}
use Rattle.words.specs.SomeBelow.{some-ext}
use Rattle.compare.specs.Band.{turned}
use Rattle.compare.specs.declared.bands.Band.{Band}
use Rattle.vertical_planes.specs.Ends.{below, above}
use Rattle.vertical_compare.specs.Lanes.{lane-ext}
use Rattle.vertical_planes.specs.Needed.{banded-taken}
use Rattle.vertical_planes.specs.Standing.{band_compared, out}

-- alike in the first k planes
module _ (g h : List ℕ) (k : ℕ) (same : take k g ≡ take k h) (i : ℕ) (few : i ≤ k) where
  lane-alike : (j : ℕ) → lane g 0 i j ≡ lane h 0 i j
  lane-alike j =
      lane-ext g h 0 0 i j
      (λ m l. sym (get_or-take k g (0 + m) 0 (omega arith)) ∙ ap (λ (s : List ℕ). get_or s (0 + m) 0) same
      ∙ get_or-take k h (0 + m) 0 (omega arith))

  undecided-alike : (w : ℕ) (z : ℤ) (j : ℕ) → undecided g w i z j ≡ undecided h w i z j
  unfolding undecided
  undecided-alike w (pos c) j = rw (lane-alike j)
  undecided-alike w (negsuc c) j = refl

  some_alike : (w : ℕ) (cs : List ℤ) → some_undecided g w i cs ≡ some_undecided h w i cs
  unfolding some_undecided
  some_alike w [] = refl
  some_alike w (c ∷ cs) = ap₂ ◌||◌ (some-ext 64 (λ j l. undecided-alike w c j)) (some_alike w cs)

  out-alike : length g ≡ length h → (band : Band) (j : ℕ) → out g band i j ≡ out h band i j
  unfolding below above
  out-alike size band j = rw (lane-alike j, size)

module _ (g h : List ℕ) (size : length g ≡ length h) where
  -- as many planes are taken of both
  pub taken-alike : (cs : List ℤ) → take (planes_taken g cs) g ≡ take (planes_taken g cs) h
      → planes_taken h cs ≡ planes_taken g cs
  unfolding planes_taken
  taken-alike cs same =
      rw (← size)
      (least-alike (length g) _ _
      (λ i l few. ap not (some_alike g h (planes_taken g cs) same i few (length g) cs)))

  -- and a band selects the same lanes
  pub band-alike : (band : Band)
      → take (band_compared g band).taken g ≡ take (band_compared g band).taken h
      → band_compared h band ≡ band_compared g band
  band-alike band same =
      let k : ℕ = planes_taken g (band.low ∷ band.high ∷ []) in
      let taken = taken-alike (band.low ∷ band.high ∷ []) same in
      ap₂ (λ (bits taken : ℕ). record { bits = bits; taken = taken })
      (word-ext 64 (λ j l. banded-taken h band j l
      ∙ ap (λ (o : Bool). turned band.outside (not o))
      (ap (λ (i : ℕ). out h band i j) taken ∙ sym (out-alike g h k same k (omega arith) size band j))
      ∙ sym (banded-taken g band j l)))
      taken
