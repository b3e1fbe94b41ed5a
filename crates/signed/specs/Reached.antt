-- What is reached from a number by steps, in W bits that wrap.
use Rattle.std.specs.Prelude.{◌≡◌, ℕ, zero, suc, ◌+◌, ◌%◌, ◌^◌, ◌<◌, ◌≤◌}
use Rattle.std.proofs.Math.Path.{refl, sym, ap}
use Rattle.std.proofs.Common.{◌∙◌, add-suc}
use Rattle.std.proofs.Math.Nat.{mod-add-mod, add-mod-mod, add-zero}
use native.Mathlib.Omega.{arith}

-- from x by the steps d 0 to d (j - 1)
unfoldable pub reached : ℕ → ℕ → (ℕ → ℕ) → ℕ → ℕ
reached W x d zero = x
reached W x d (suc j) = (reached W x d j + d j) % 2 ^ W

module _ (W x : ℕ) (d : ℕ → ℕ) where
  -- steps after steps
  pub reached_add : (a j : ℕ) → reached W (reached W x d a) (λ i. d (a + i)) j ≡ reached W x d (a + j)
  unfolding reached
  reached_add a zero = rw add-zero
  reached_add a (suc j) = rw (reached_add a j, add-suc)

  -- steps count only modulo 2^W
  pub reached-ext : (e : ℕ → ℕ) (k j : ℕ) → ((i : ℕ) → i < k → d i % 2 ^ W ≡ e i % 2 ^ W) → j ≤ k
      → reached W x d j ≡ reached W x e j
  unfolding reached
  reached-ext e k zero h l = refl
  reached-ext e k (suc j) h l =
      ap (λ (y : ℕ). (y + d j) % 2 ^ W) (reached-ext e k j h (omega arith))
      ∙ sym (add-mod-mod (reached W x e j) (d j) (2 ^ W))
      ∙ ap (λ (y : ℕ). (reached W x e j + y) % 2 ^ W) (h j (omega arith))
      ∙ add-mod-mod (reached W x e j) (e j) (2 ^ W)

  -- from c further on, c further on
  pub reached-raised : (c j : ℕ) → reached W ((x + c) % 2 ^ W) d j ≡ (reached W x d j + c) % 2 ^ W
  unfolding reached
  reached-raised c zero = refl
  reached-raised c (suc j) =
      let r : ℕ = reached W x d j in
      let swap : r + c + d j ≡ r + d j + c = omega arith in
      ap (λ (y : ℕ). (y + d j) % 2 ^ W) (reached-raised c j) ∙ mod-add-mod (r + c) (2 ^ W) (d j)
      ∙ ap (λ (y : ℕ). y % 2 ^ W) swap
      ∙ sym (mod-add-mod (r + d j) (2 ^ W) c)
