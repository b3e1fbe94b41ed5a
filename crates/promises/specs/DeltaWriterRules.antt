-- How the writer of delta pages writes a list, in document 01's sentences, over the width W of the kind.
use Rattle.std.specs.Prelude.{◌≡◌, refl, Bool, true, false, cond, List, [], ◌∷◌, ◌⊎◌, ℕ, suc, ◌<◌, ◌≤◌, ℤ, pos, length, get_or}
use Rattle.std.proofs.Common.{sym, inl, inr, ⊎_elim, arith}
use Rattle.std.specs.Int.Signed.{le_z}
use Rattle.rules.specs.DeltaWriter.{least_from, least, width_for}
use Rattle.words.specs.Joined.{Small}
use Rattle.delta_write.specs.Deltas.{least_each}
use Rattle.delta_write.specs.LeastWidth.{widths_hold, widths-least}

-- the signed least of a block's deltas is at most each of them
pub least_of_all : (ds : List ℤ) (i : ℕ) → i < length ds → le_z (least ds) (get_or ds i (pos 0)) ≡ true
least_of_all = least_each

-- and it is one of them
pub record There (ds : List ℤ) (z : ℤ) : Type 0 where
  pub place : ℕ
  pub below : place < length ds
  pub there : get_or ds place (pos 0) ≡ z

next-there : {d : ℤ} {ds : List ℤ} {z : ℤ} → There ds z → There (d ∷ ds) z
next-there t = record { place = suc t.place; below = omega (arith, t.below); there = t.there }

from_there : (z : ℤ) (ds : List ℤ) → (least_from z ds ≡ z) ⊎ There ds (least_from z ds)
from_there z [] = inl refl
from_there z (d ∷ ds) = go (le_z z d) (from_there z ds) (from_there d ds)
  where
    go : (t : Bool) → (least_from z ds ≡ z) ⊎ There ds (least_from z ds)
        → (least_from d ds ≡ d) ⊎ There ds (least_from d ds)
        → (least_from (cond t z d) ds ≡ z) ⊎ There (d ∷ ds) (least_from (cond t z d) ds)
    go true kept other = ⊎_elim (λ e. inl e) (λ t. inr (next-there t)) kept
    go false kept other =
        ⊎_elim (λ e. inr (record { place = 0; below = omega arith; there = sym e })) (λ t. inr (next-there t)) other

pub least-there : (d : ℤ) (ds : List ℤ) → There (d ∷ ds) (least (d ∷ ds))
least-there d ds =
    ⊎_elim (λ e. record { place = 0; below = omega arith; there = sym e }) (λ t. next-there t) (from_there d ds)

-- a miniblock's width holds its numbers, and no smaller one does
pub width-holds : (W : ℕ) (xs : List ℕ) → Small W xs → Small (width_for W xs) xs
width-holds = widths_hold

pub width-least : (W k : ℕ) (xs : List ℕ) → Small k xs → width_for W xs ≤ k
width-least = widths-least
