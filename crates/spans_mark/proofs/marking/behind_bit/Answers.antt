-- `spans_mark::marking::behind_bit` meets its contract.
use mathlib.Core.Path.{◌≡◌, ap, ◌∙◌}
use Prim.Native.Nat.{ℕ, suc, ◌+◌, ◌*◌, ◌^◌, ◌≤◌, ◌<◌}
use native.Mathlib.Nat.{pow-suc}
use native.Mathlib.Omega.{arith}
use lib.Pow.{pow_mono, pow_pos}
use Rattle.spans_mark.proofs.marking.behind_bit.Goals as goal

-- the bit lies in the word, and the next is twice it
bit : (r : ℕ) → r ≤ 63 → (2 ^ r ≤ 2 ^ 63) × (0 < 2 ^ r) × (2 ^ (r + 1) ≡ 2 ^ r * 2)
bit r h =
    let up : r + 1 ≡ suc r = omega arith in
    (pow_mono {i = r} {j = 63} h, pow_pos r, ap (λ (k : ℕ). 2 ^ k) up ∙ pow-suc 2 r)

pub returns : goal.returns
returns c = omega (arith, c.from_bit.ensures, bit c.args.r (omega arith))
