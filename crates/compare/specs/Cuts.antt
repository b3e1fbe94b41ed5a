-- How many of the numbers below 2^32 are below a whole number, and how many at most it.
use Rattle.std.specs.Prelude.{◌≡◌, ℕ, ◌<◌, ◌≤◌, ℤ, pos, negsuc, int_le, int_lt, nat_lt}
use Rattle.std.proofs.Common.{sym, arith, le-ltb}
use Rattle.signed.specs.Order.{same-ltb, same-leb}
use Rattle.compare.specs.Range.{cut_of, next_of}

pub next_le : (z : ℤ) → next_of z ≤ 4294967296
next_le (pos n) = omega arith
next_le (negsuc n) = omega arith

-- ---- the tests of one entry

-- an entry is below z just where it is one of those that are
pub below-cut : (x : ℕ) (z : ℤ) → x < 4294967296 → int_lt (pos x) z ≡ nat_lt x (cut_of z)
below-cut x (pos n) h = sym (same-ltb x n x (cut_of (pos n)) (λ l. omega arith) (λ l. omega arith))
below-cut x (negsuc n) h = sym (le-ltb x 0 (omega arith))

-- and at most z just where it is one of those
pub below_next : (x : ℕ) (z : ℤ) → x < 4294967296 → int_le (pos x) z ≡ nat_lt x (next_of z)
below_next x (pos n) h = sym (same-leb x n x (next_of (pos n)) (λ l. omega arith) (λ l. omega arith))
below_next x (negsuc n) h = sym (le-ltb x 0 (omega arith))
