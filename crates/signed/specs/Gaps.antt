-- How far one whole number is above another.
use Rattle.std.specs.Prelude.{◌≡◌, ℕ, suc, ◌+◌, ◌-◌, ◌^◌, ◌<◌, ◌≤◌, true, ℤ, pos, negsuc, ◌+ℤ◌, int_le}
use Rattle.std.proofs.Common.{sym, ap, true≢false, arith, pow_pos, lt-ltb, le-ltb, leb-true}
use Rattle.rules.specs.Signed.{Within, gap}

-- it is the difference
pub gap_is : (z l : ℤ) → int_le l z ≡ true → l +ℤ pos (gap z l) ≡ z
unfolding gap
gap_is (pos a) (pos b) h = let e = leb-true b a h in ap pos (omega arith)
gap_is (pos a) (negsuc b) h =
    let e : a + suc b - suc b ≡ a = omega arith in
    rw (le-ltb (a + suc b) (suc b) (omega arith)) (ap pos e)
gap_is (negsuc a) (pos b) h = absurd (true≢false (sym h))
gap_is (negsuc a) (negsuc b) h =
    let l : a ≤ b = leb-true a b h in
    let e : suc b - suc (b - a) ≡ a = omega arith in
    rw (lt-ltb (b - a) (suc b) (omega arith)) (ap negsuc e)

-- no difference of two signed numbers of W bits needs more than W bits
pub gap_lt : (W : ℕ) (z l : ℤ) → Within W z → Within W l → gap z l < 2 ^ W
unfolding gap
gap_lt W (pos a) (pos b) h k = omega arith
gap_lt W (pos a) (negsuc b) h k = omega arith
gap_lt W (negsuc a) (pos b) h k = pow_pos W
gap_lt W (negsuc a) (negsuc b) h k = omega arith
