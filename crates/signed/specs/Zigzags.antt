-- Zigzag numbers of W bits are the signed numbers of W bits, each once.
use Rattle.std.specs.Prelude.{◌≡◌, ℕ, zero, suc, ◌+◌, ◌*◌, ◌/◌, ◌%◌, ◌^◌, ◌<◌, Bool, true, false, cond, ℤ, pos, negsuc, ◌==◌}
use Rattle.std.proofs.Common.{ap, pow-suc, arith, eq-eqb, ne_eqb}
use Rattle.rules.specs.Signed.{zigzag, zigzag_of, Within}

-- half of a number of W bits is one of W - 1
half : (W h : ℕ) → 0 < W → h < 2 ^ W → h / 2 < 2 ^ W / 2
half zero h some l = absurd (omega arith)
half (suc W) h some l = omega (arith, pow-suc 2 W)

pub zigzag-within : (W h : ℕ) → 0 < W → h < 2 ^ W → Within W (zigzag h)
unfolding zigzag
zigzag-within W h some l = go (h % 2 == 0)
  where
    go : (t : Bool) → Within W (cond t (pos (h / 2)) (negsuc (h / 2)))
    go true = half W h some l
    go false = half W h some l

pub zigzag_of_lt : (W : ℕ) (z : ℤ) → Within W z → zigzag_of z < 2 ^ W
unfolding zigzag_of
zigzag_of_lt W (pos k) h = omega arith
zigzag_of_lt W (negsuc k) h = omega arith

pub zigzag_of_lem : (z : ℤ) → zigzag (zigzag_of z) ≡ z
unfolding zigzag zigzag_of
zigzag_of_lem (pos k) =
    let e : 2 * k / 2 ≡ k = omega arith in
    rw (eq-eqb (2 * k % 2) 0 (omega arith)) (ap pos e)
zigzag_of_lem (negsuc k) =
    let e : (2 * k + 1) / 2 ≡ k = omega arith in
    rw (ne_eqb ((2 * k + 1) % 2) 0 (λ z. omega arith)) (ap negsuc e)
