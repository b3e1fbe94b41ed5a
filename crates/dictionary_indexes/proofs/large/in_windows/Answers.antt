-- `dictionary_indexes::large::in_windows` meets its contract: each test is one of those listed.
use Prim.Native.Nat.{ℕ, ◌*◌, ◌/◌, ◌≤◌}
use native.Mathlib.Nat.{mul-le-mul}
use native.Mathlib.Omega.{arith}
use Rattle.dictionary_indexes.proofs.large.in_windows.Goals as goal

-- whole groups of at most sixteen bits take at most 32,768 bytes
few_bytes : (m w : ℕ) → m ≤ 16384 → w ≤ 16 → m / 8 * w ≤ 32768
few_bytes m w h k = mul-le-mul {n₁ = m / 8} {m₁ = w} {n₂ = 2048} {m₂ = 16} (omega arith) k

pub overflow_mul-result : goal.overflow_mul-result
overflow_mul-result c =
    let a = c.args in
    omega (arith, few_bytes a.m a.w (omega arith) (omega arith))
