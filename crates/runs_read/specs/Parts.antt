-- The part of a page from a place on: its length, and the number that its first bytes make; the bits of a packed
-- run's first entries.
use Rattle.std.specs.Prelude.{◌≡◌, refl, Bool, true, false, List, ℕ, ◌+◌, ◌-◌, ◌*◌, ◌%◌, ◌^◌, ◌≤◌, ◌<◌, leb, length, take, drop}
use Rattle.std.proofs.Common.{sym, ap, ◌∙◌, add_comm, mod-eq_of_lt, lt_of_lt_of_le, mul-le-mul_right, mul_assoc, mul_comm, arith, length-drop, take-add, take_all, length-take-le, pow_mono, leb-true, leb-false}
use Rattle.std.proofs.Math.Pow.{low}
use Rattle.rules.specs.Bits.{number}
use Rattle.words.specs.Bytes.{number_append, pow_256}
use Rattle.words.specs.Joined.{Small, small-take, joined_lt}

pub part_size : (page : List ℕ) (at : ℕ) {part : List ℕ} → drop at page ≡ part → length page - at ≡ length part
part_size page at e = sym (length-drop at page) ∙ ap length e

-- of k + m bytes that were read together, the first k; or all, where they are fewer
pub first-bytes : (l : List ℕ) (k m : ℕ) → Small 8 l → number (take (k + m) l) % 2 ^ (8 * k) ≡ number (take k l)
first-bytes l k m bytes = go (leb k (length l)) refl
  where
    go : (t : Bool) → leb k (length l) ≡ t → number (take (k + m) l) % 2 ^ (8 * k) ≡ number (take k l)
    go true e =
        let size : length (take k l) ≡ k = length-take-le k l (leb-true k (length l) e) in
        let small : number (take k l) < 2 ^ (8 * k) = rw size at (joined_lt 8 (take k l) (small-take 8 k l bytes)) in
        rw (
          take-add k m l,
          number_append (take k l) (take m (drop k l)),
          size,
          pow_256 k,
          add_comm (number (take k l)),
        )
        (low (number (take m (drop k l))) (8 * k) small)
    go false e =
        let few : length l < k = leb-false k (length l) e in
        rw (take_all (k + m) l (omega arith), take_all k l (omega arith))
        (mod-eq_of_lt (lt_of_lt_of_le (joined_lt 8 l bytes) (pow_mono {i = 8 * length l} {j = 8 * k} (omega arith))))

-- the first entries of a packed run are within its groups'
pub body-fits : (w groups m : ℕ) → m ≤ 8 * groups → m * w ≤ 8 * (w * groups)
body-fits w groups m h = omega (arith, mul-le-mul_right w h, mul_assoc 8 groups w, mul_comm groups w)
