-- How many signed numbers of W bits are below a whole number, and how many at most it.
use Rattle.std.specs.Prelude.{◌≡◌, ℕ, suc, ◌+◌, ◌-◌, ◌/◌, ◌^◌, ◌≤◌, ℤ, pos, negsuc, int_le, int_lt, nat_lt}
use Rattle.std.proofs.Common.{sym, lt-ltb, le-ltb}
use native.Mathlib.Omega.{arith}
use Rattle.rules.specs.Signed.{Within}
use Rattle.signed.specs.Order.{same-ltb, same-leb}
use Rattle.signed.specs.Raised.{raised, raised-pos, raised-negsuc}
use Rattle.compare.specs.SignedRange.{signed_cut, signed_next}

module _ (W : ℕ) where
  pub signed-next_le : (z : ℤ) → signed_next W z ≤ 2 ^ W
  unfolding signed_next
  signed-next_le (pos n) = omega arith
  signed-next_le (negsuc n) = omega arith

  -- ---- the tests of one entry

  -- an entry is below z just where it is one of those that are
  pub below-signed-cut : (x z : ℤ) → Within W x → int_lt x z ≡ nat_lt (raised W x) (signed_cut W z)
  unfolding signed_cut
  below-signed-cut (pos a) (pos n) h =
      rw (raised-pos W a h)
      (sym (same-ltb a n (a + 2 ^ W / 2) (signed_cut W (pos n)) (λ l. omega arith) (λ l. omega arith)))
  below-signed-cut (pos a) (negsuc n) h =
      rw (raised-pos W a h) (sym (le-ltb (a + 2 ^ W / 2) (signed_cut W (negsuc n)) (omega arith)))
  below-signed-cut (negsuc a) (pos n) h =
      rw (raised-negsuc W a h) (sym (lt-ltb (2 ^ W / 2 - suc a) (signed_cut W (pos n)) (omega arith)))
  below-signed-cut (negsuc a) (negsuc n) h =
      rw (raised-negsuc W a h)
      (sym (same-ltb n a (2 ^ W / 2 - suc a) (signed_cut W (negsuc n)) (λ l. omega arith) (λ l. omega arith)))

  -- and at most z just where it is one of those
  pub below-signed-next : (x z : ℤ) → Within W x → int_le x z ≡ nat_lt (raised W x) (signed_next W z)
  unfolding signed_next
  below-signed-next (pos a) (pos n) h =
      rw (raised-pos W a h)
      (sym (same-leb a n (a + 2 ^ W / 2) (signed_next W (pos n)) (λ l. omega arith) (λ l. omega arith)))
  below-signed-next (pos a) (negsuc n) h =
      rw (raised-pos W a h) (sym (le-ltb (a + 2 ^ W / 2) (signed_next W (negsuc n)) (omega arith)))
  below-signed-next (negsuc a) (pos n) h =
      rw (raised-negsuc W a h) (sym (lt-ltb (2 ^ W / 2 - suc a) (signed_next W (pos n)) (omega arith)))
  below-signed-next (negsuc a) (negsuc n) h =
      rw (raised-negsuc W a h)
      (sym (same-leb n a (2 ^ W / 2 - suc a) (signed_next W (negsuc n)) (λ l. omega arith) (λ l. omega arith)))
