-- One plane more: which lanes are still undecided against a constant, and which fall below or above it.
use Rattle.std.specs.Prelude.{◌≡◌, Bool, true, false, not, ◌&&◌, ◌||◌, List, ℕ, ◌+◌, ◌-◌, ◌*◌, ◌/◌, ◌^◌, ◌≤◌, ◌<◌, ltb, eqb, ℤ, pos, negsuc, get_or}
use Rattle.std.proofs.Math.Path.{refl}
use Rattle.std.proofs.Common.{sym, ap, ◌∙◌, zero-add, add-one, arith, pow-add, shr-shr, ltb-false, ne_eqb}
use Rattle.std.specs.Bool.{xor}
use Rattle.std.proofs.lemmas.Nat.{shl-shr}
use Rattle.std.proofs.Math.Pow.{shr_mono}
use Rattle.rules.specs.Bits.{bit, flag}
use Rattle.rules.specs.Planes.{undecided}
use Rattle.rules.specs.Vertical.{lane}
use Rattle.vertical_planes.specs.BinaryDigits.{above-not, digit-equal, digit-less, digit-more}
use Rattle.vertical_planes.specs.Ends.{below, above, bits_of}
use Rattle.vertical_compare.specs.Lanes.{lane_lt}
use Rattle.vertical_planes.specs.Standing.{has}
use Rattle.vertical_planes.specs.Words.{has-flag}

-- the lane's next digit is its bit of the next plane
lane-next : (planes : List ℕ) (i j : ℕ)
    → lane planes 0 (i + 1) j ≡ lane planes 0 i j * 2 + flag (has (get_or planes i 0) j)
unfolding lane
lane-next planes i j = rw (add-one i, zero-add i, ← has-flag (get_or planes i 0) j)

-- and the constant's is its bit of the next place
constant_next : (c w i : ℕ) → i < w → c / 2 ^ (w - (i + 1)) ≡ c / 2 ^ (w - i) * 2 + flag (has c (w - 1 - i))
unfolding bit
constant_next c w i more =
    let left : ℕ = w - 1 - i in
    let half : c / 2 ^ left / 2 ≡ c / 2 ^ (w - i) =
    shr-shr c left 1 ∙ ap (λ (k : ℕ). c / 2 ^ k) (omega arith) in
    let place : w - (i + 1) ≡ left = omega arith in
    ap (λ (k : ℕ). c / 2 ^ k) place ∙ omega (arith, half, has-flag c left)

-- a constant above 2^w - 1 is above every lane, so that "within 0 to 2^w - 1" need not be asked
within : (planes : List ℕ) (w i : ℕ) → i ≤ w → (c j : ℕ)
    → undecided planes w i (pos c) j ≡ eqb (lane planes 0 i j) (c / 2 ^ (w - i))
unfolding undecided
within planes w i few c j = go (ltb c (2 ^ w)) refl
  where
    high : 2 ^ w / 2 ^ (w - i) ≡ 2 ^ i
    high =
        ap (λ (k : ℕ). 2 ^ k / 2 ^ (w - i)) (omega arith)
        ∙ ap (λ (x : ℕ). x / 2 ^ (w - i)) (pow-add 2 i (w - i))
        ∙ shl-shr (2 ^ i) (w - i)

    go : (t : Bool) → ltb c (2 ^ w) ≡ t
        → (ltb c (2 ^ w) && eqb (lane planes 0 i j) (c / 2 ^ (w - i)))
        ≡ eqb (lane planes 0 i j) (c / 2 ^ (w - i))
    go true e = rw e
    go false e =
        let most : 2 ^ w / 2 ^ (w - i) ≤ c / 2 ^ (w - i) = shr_mono (w - i) (ltb-false c (2 ^ w) e) in
        rw e (sym (ne_eqb (lane planes 0 i j) (c / 2 ^ (w - i)) (omega (arith, high, lane_lt planes 0 i j))))

-- and against a negative one no lane is undecided
negative : (planes : List ℕ) (w i c j : ℕ) → undecided planes w i (negsuc c) j ≡ false
unfolding undecided
negative planes w i c j = refl

module _ (planes : List ℕ) (w i : ℕ) (more : i < w) where
  -- a lane stays undecided where its bit is the constant's
  pub undecided-next : (z : ℤ) (j : ℕ) → undecided planes w (i + 1) z j
      ≡ (undecided planes w i z j && not (xor (has (get_or planes i 0) j) (has (bits_of z) (w - 1 - i))))
  undecided-next (pos c) j =
      rw (within planes w (i + 1) (omega arith) c j, within planes w i (omega arith) c j)
      (rw (lane-next planes i j, constant_next c w i more)
      (digit-equal (lane planes 0 i j) (c / 2 ^ (w - i)) (has (get_or planes i 0) j) (has c (w - 1 - i))))
  undecided-next (negsuc c) j = rw (negative planes w (i + 1) c j, negative planes w i c j)

  -- an undecided lane falls below where its bit is 0 and the constant's 1
  pub below_next : (z : ℤ) (j : ℕ) → below planes w (i + 1) z j
      ≡ (below planes w i z j
      || (undecided planes w i z j && (not (has (get_or planes i 0) j) && has (bits_of z) (w - 1 - i))))
  unfolding below
  below_next (pos c) j =
      rw (within planes w i (omega arith) c j)
      (rw (lane-next planes i j, constant_next c w i more)
      (digit-less (lane planes 0 i j) (c / 2 ^ (w - i)) (has (get_or planes i 0) j) (has c (w - 1 - i))))
  below_next (negsuc c) j = rw (negative planes w i c j)

  -- and above where its bit is 1 and the constant's 0
  pub above-next : (z : ℤ) (j : ℕ) → above planes w (i + 1) z j
      ≡ (above planes w i z j
      || (undecided planes w i z j && (has (get_or planes i 0) j && not (has (bits_of z) (w - 1 - i)))))
  unfolding above
  above-next (pos c) j =
      rw (within planes w i (omega arith) c j)
      (rw (lane-next planes i j, constant_next c w i more)
      (digit-more (lane planes 0 i j) (c / 2 ^ (w - i)) (has (get_or planes i 0) j) (has c (w - 1 - i))))
  above-next (negsuc c) j = refl

-- a lane is below, undecided or above
pub above_is : (planes : List ℕ) (w i : ℕ) → i ≤ w → (z : ℤ) (j : ℕ)
    → above planes w i z j ≡ not (below planes w i z j || undecided planes w i z j)
unfolding below above
above_is planes w i few (pos c) j =
    rw (within planes w i few c j) (above-not (lane planes 0 i j) (c / 2 ^ (w - i)))
above_is planes w i few (negsuc c) j = rw (negative planes w i c j)
