-- After the last plane, or once a lane is decided: whether its entry is between two constants.
use Rattle.std.specs.Prelude.{◌≡◌, refl, Bool, true, false, not, ◌&&◌, ◌||◌, List, ℕ, zero, suc, ◌+◌, ◌-◌, ◌^◌, ◌≤◌, ◌<◌, ℤ, pos, negsuc}
use Rattle.std.proofs.Common.{ap, ap₂, ◌∙◌, div-one, arith}
use Rattle.std.proofs.Math.Bool.{or-false}
use Rattle.std.specs.Int.Signed.{lt_z, shr_z}
use Rattle.rules.specs.Comparison.{between}
use Rattle.rules.specs.Planes.{undecided}
use Rattle.rules.specs.Vertical.{lane}
use Rattle.signed.specs.Order.{not_lt_z}
use Rattle.vertical_planes.specs.Ends.{below, above}
use Rattle.vertical_planes.specs.OnePlaneMore.{undecided-next, below_next, above-next}

-- with no planes to come, all the constant's bits count
all_bits : (w : ℕ) (z : ℤ) → shr_z z (2 ^ (w - w)) ≡ z
all_bits w z = ap (λ (k : ℕ). shr_z z (2 ^ k)) none ∙ go z
  where
    none : w - w ≡ 0
    none = omega arith

    go : (z : ℤ) → shr_z z (2 ^ 0) ≡ z
    go (pos c) = ap pos (div-one c)
    go (negsuc c) = ap negsuc (div-one c)

-- not below the low one and not above the high one
pub between_is : (planes : List ℕ) (w : ℕ) (low high : ℤ) (j : ℕ)
    → between low high (pos (lane planes 0 w j)) ≡ not (below planes w w low j || above planes w w high j)
unfolding between below above
between_is planes w low high j =
    let x : ℤ = pos (lane planes 0 w j) in
    rw (all_bits w low, all_bits w high)
    (ap₂ ◌&&◌ (not_lt_z low x) (not_lt_z x high) ∙ both-not (lt_z x low) (lt_z high x))
  where
    both-not : (s t : Bool) → (not s && not t) ≡ not (s || t)
    both-not true t = refl
    both-not false t = refl

-- what one plane does not change of a lane that is not undecided, all planes to come do not
module _ (planes : List ℕ) (w : ℕ) (z : ℤ) (j : ℕ) (side : ℕ → Bool)
    (next : (i : ℕ) → i < w → undecided planes w i z j ≡ false → side (i + 1) ≡ side i) where
  settled : (left i : ℕ) → i + left ≡ w → undecided planes w i z j ≡ false → side w ≡ side i
  settled zero i e none = ap side (omega arith)
  settled (suc left) i e none =
      let more : i < w = omega arith in
      let still : undecided planes w (i + 1) z j ≡ false = undecided-next planes w i more z j ∙ rw none in
      settled left (i + 1) (omega arith) still ∙ next i more none

-- once a lane is not undecided, the planes to come change nothing
pub below_settled : (planes : List ℕ) (w i : ℕ) → i ≤ w → (z : ℤ) (j : ℕ) → undecided planes w i z j ≡ false
    → below planes w w z j ≡ below planes w i z j
below_settled planes w i few z j none =
    settled planes w z j (λ k. below planes w k z j)
    (λ k more h. below_next planes w k more z j ∙ rw h (or-false (below planes w k z j)))
    (w - i) i (omega arith) none

pub above_settled : (planes : List ℕ) (w i : ℕ) → i ≤ w → (z : ℤ) (j : ℕ) → undecided planes w i z j ≡ false
    → above planes w w z j ≡ above planes w i z j
above_settled planes w i few z j none =
    settled planes w z j (λ k. above planes w k z j)
    (λ k more h. above-next planes w k more z j ∙ rw h (or-false (above planes w k z j)))
    (w - i) i (omega arith) none
