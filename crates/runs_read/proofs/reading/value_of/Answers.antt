-- `runs_read::reading::value_of` meets its contract: of the eight bytes that were read, the remainder keeps the
-- first k.
use mathlib.Core.Path.{◌≡◌, ap, ◌∙◌}
use Prim.Native.Nat.{ℕ, ◌+◌, ◌-◌, ◌*◌, ◌%◌, ◌^◌}
use native.Mathlib.Omega.{arith}
use lib.ListN.{take}
use lib.Pow.{pow_pos}
use Rattle.rules.specs.Bits.{number}
use Rattle.words.specs.Bits.{one_shl}
use Rattle.runs_read.specs.Parts.{first-bytes}
use Rattle.runs_read.proofs.reading.value_of.Goals as goal

pub nonzero_rem-result : goal.nonzero_rem-result
nonzero_rem-result c = let k = c.args.k in rw (one_shl 64 (8 * k) (omega arith)) (pow_pos (8 * k))

pub returns : goal.returns
returns c =
    let a = c.args in
    let eight : 8 ≡ a.k + (8 - a.k) = omega arith in
    rw (one_shl 64 (8 * a.k) (omega arith), c.load_any.ensures)
    (ap (λ (n : ℕ). number (take n a.part.now) % 2 ^ (8 * a.k)) eight
    ∙ first-bytes a.part.now a.k (8 - a.k) (λ j. (c.type_inv.part j).fits))
