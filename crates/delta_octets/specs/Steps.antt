-- The steps of a miniblock's body, kept as remainders, and where they lie.
use Rattle.std.specs.Prelude.{◌≡◌, ℕ, ◌+◌, ◌*◌, ◌/◌, ◌%◌, ◌≤◌, List}
use Rattle.std.proofs.Common.{sym, ap, ◌∙◌, add-mul, mul_assoc, mul-le-mul, arith}
use Rattle.rules.specs.Bits.{field, entry}
use Rattle.rules.specs.Bits.Order.{low_first}

-- step j: the smallest delta's remainder and packed number j, of width w; the sum wraps where it is taken
abbrev pub packed_step : ℕ → List ℕ → ℕ → ℕ → ℕ
packed_step least body w j = least + entry low_first body w j

-- the same where the packed numbers begin at byte `at`
abbrev pub step_from : ℕ → List ℕ → ℕ → ℕ → ℕ → ℕ
step_from least body at w j = least + field low_first body (8 * at + j * w) w

-- packed number i begins a byte where i is a multiple of eight
pub step_from_lem : (least : ℕ) (body : List ℕ) (w i j : ℕ) → i % 8 ≡ 0
    → step_from least body (i / 8 * w) w j ≡ packed_step least body w (i + j)
step_from_lem least body w i j first =
    let e : 8 * (i / 8) ≡ i = omega arith in
    let place : 8 * (i / 8 * w) + j * w ≡ (i + j) * w =
    sym
    (add-mul i j w ∙ ap (λ (x : ℕ). x * w + j * w) (sym e) ∙ ap (λ (x : ℕ). x + j * w) (mul_assoc 8 (i / 8) w))
    in
    ap (λ (k : ℕ). least + field low_first body k w) place

-- and it lies in the first 65,536 bytes
pub step-place : (i w : ℕ) → i ≤ 16384 → w ≤ 32 → i / 8 * w ≤ 65536
step-place i w h k = mul-le-mul {n₁ = i / 8} {m₁ = w} {n₂ = 2048} {m₂ = 32} (omega arith) k
