-- Signed numbers of W bits raised by half of 2^W, as unsigned ones.
use Rattle.std.specs.Prelude.{◌≡◌, ℕ, suc, ◌+◌, ◌-◌, ◌/◌, ◌%◌, ◌^◌, ◌<◌, ℤ, pos, negsuc}
use Rattle.std.proofs.Common.{ap, ◌∙◌, pow_pos}
use Rattle.std.proofs.Math.Nat.{mod-lt, mod-eq_of_lt, add-mod_right}
use native.Mathlib.Omega.{arith}
use Rattle.rules.specs.Signed.{modulo, Within}

-- how many signed numbers of W bits are below z, where z is one
unfoldable pub raised : ℕ → ℤ → ℕ
raised W z = (modulo W z + 2 ^ W / 2) % 2 ^ W

module _ (W : ℕ) where
  pub raised_lt : (z : ℤ) → raised W z < 2 ^ W
  unfolding raised
  raised_lt z = mod-lt _ (pow_pos W)

  pub raised-pos : (k : ℕ) → Within W (pos k) → raised W (pos k) ≡ k + 2 ^ W / 2
  unfolding raised modulo
  raised-pos k h =
      let e : k % 2 ^ W ≡ k = mod-eq_of_lt (omega arith) in
      rw e (mod-eq_of_lt (omega arith))

  pub raised-negsuc : (k : ℕ) → Within W (negsuc k) → raised W (negsuc k) ≡ 2 ^ W / 2 - suc k
  unfolding raised modulo
  raised-negsuc k h =
      let e : k % 2 ^ W ≡ k = mod-eq_of_lt (omega arith) in
      let f : 2 ^ W - suc k + 2 ^ W / 2 ≡ 2 ^ W / 2 - suc k + 2 ^ W = omega arith in
      rw e (ap (λ (x : ℕ). x % 2 ^ W) f ∙ add-mod_right (2 ^ W / 2 - suc k) (2 ^ W) ∙ mod-eq_of_lt (omega arith))
