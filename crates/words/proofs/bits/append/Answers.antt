-- `words::bits::append` meets its contract: nothing is shifted out of the word, and the sum fits.
use mathlib.Core.Path.{◌≡◌, ◌∙◌}
use Prim.Native.Nat.{ℕ, ◌+◌, ◌*◌, ◌%◌, ◌^◌, ◌≤◌, ◌<◌}
use native.Mathlib.Nat.{mod-lt}
use native.Mathlib.Omega.{arith}
use lib.Pow.{pow_pos, pow_mono, shl_lt, shl_exact}
use Rattle.words.proofs.bits.append.Goals as goal

-- nothing is shifted out
shifted : (x r m : ℕ) → r < 8 → m ≤ 56 → x < 2 ^ m → (x * 2 ^ r) % 2 ^ 64 ≡ x * 2 ^ r
shifted x r m hr hm h = shl_exact m r 64 h (omega arith)

pub overflow_add-x : goal.overflow_add-x
overflow_add-x c =
    let a = c.args in
    let low : c.head-low.result < 2 ^ a.r = rw c.head-low.ensures (mod-lt _ (pow_pos a.r)) in
    rw (shifted a.x a.r a.m (omega arith) (omega arith) c.requires.2)
    (omega (
      arith,
      shl_lt a.m a.r c.requires.2,
      pow_mono {i = a.m + a.r} {j = 63} (omega arith),
      pow_mono {i = a.r} {j = 8} (omega arith),
    ))

pub returns : goal.returns
returns c =
    let a = c.args in
    c.store_low.ensures
    ∙ rw (
      shifted a.x a.r a.m (omega arith) (omega arith) c.requires.2,
      c.head-low.ensures,
    )
