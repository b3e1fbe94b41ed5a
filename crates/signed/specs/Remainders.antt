-- Whole numbers modulo 2^W, and the signed numbers of W bits that remainders stand for.
use Rattle.std.specs.Prelude.{◌≡◌, ℕ, zero, suc, ◌+◌, ◌-◌, ◌/◌, ◌%◌, ◌^◌, ◌<◌, Bool, true, false, cond, ℤ, pos, negsuc, ◌+ℤ◌, nat_lt}
use Rattle.std.proofs.Math.Path.{refl, sym, ap}
use Rattle.std.proofs.Common.{◌∙◌, add_assoc, pow-suc, add-one, pow_pos}
use Rattle.std.proofs.Math.Nat.{mod-lt, mod-eq_of_lt, mod_self, mod-add-mod, add-mod-mod, add-mod_right, zero-mod}
use native.Mathlib.Omega.{arith}
use Rattle.std.proofs.Math.IntN.{suc_ℤ, pred_ℤ, suc-pred, +ℤ-suc_ℤ, +ℤ-pred_ℤ, +ℤ_idr}
use borrow.Author.Tests.{lt-ltb, le-ltb, ltb-true, ltb-false}
use Rattle.rules.specs.Signed.{modulo, signed, wrapped, Within}

module _ (W : ℕ) where
  some : 0 < 2 ^ W
  some = pow_pos W

  pub modulo_lt : (z : ℤ) → modulo W z < 2 ^ W
  unfolding modulo
  modulo_lt (pos k) = mod-lt k some
  modulo_lt (negsuc k) = omega (arith, some)

  -- ---- sums

  -- one more
  modulo-suc : (z : ℤ) → modulo W (suc_ℤ z) ≡ (modulo W z + 1) % 2 ^ W
  unfolding modulo
  modulo-suc (pos k) = ap (λ (x : ℕ). x % 2 ^ W) (sym (add-one k)) ∙ sym (mod-add-mod k (2 ^ W) 1)
  modulo-suc (negsuc zero) =
      let e : 2 ^ W - suc (0 % 2 ^ W) + 1 ≡ 2 ^ W = rw (zero-mod (2 ^ W)) (omega (arith, some)) in
      zero-mod (2 ^ W) ∙ sym (ap (λ (x : ℕ). x % 2 ^ W) e ∙ mod_self (2 ^ W))
  modulo-suc (negsuc (suc k)) = go (nat_lt (k % 2 ^ W + 1) (2 ^ W)) refl
    where
      next : suc k % 2 ^ W ≡ (k % 2 ^ W + 1) % 2 ^ W
      next = ap (λ (x : ℕ). x % 2 ^ W) (sym (add-one k)) ∙ sym (mod-add-mod k (2 ^ W) 1)

      go : (t : Bool) → nat_lt (k % 2 ^ W + 1) (2 ^ W) ≡ t
          → 2 ^ W - suc (k % 2 ^ W) ≡ (2 ^ W - suc (suc k % 2 ^ W) + 1) % 2 ^ W
      go true e =
          let f : suc k % 2 ^ W ≡ k % 2 ^ W + 1 = next ∙ mod-eq_of_lt (ltb-true (k % 2 ^ W + 1) (2 ^ W) e) in
          let g : 2 ^ W - suc (suc k % 2 ^ W) + 1 ≡ 2 ^ W - suc (k % 2 ^ W) =
          omega (arith, ltb-true (k % 2 ^ W + 1) (2 ^ W) e) in
          sym (ap (λ (x : ℕ). x % 2 ^ W) g ∙ mod-eq_of_lt (omega (arith, some)))
      go false e =
          let all : k % 2 ^ W + 1 ≡ 2 ^ W = omega (arith, ltb-false (k % 2 ^ W + 1) (2 ^ W) e, mod-lt k some) in
          let f : suc k % 2 ^ W ≡ 0 = next ∙ ap (λ (x : ℕ). x % 2 ^ W) all ∙ mod_self (2 ^ W) in
          let g : 2 ^ W - suc (suc k % 2 ^ W) + 1 ≡ 2 ^ W = omega (arith, some) in
          let none : 2 ^ W - suc (k % 2 ^ W) ≡ 0 = omega arith in
          none ∙ sym (ap (λ (x : ℕ). x % 2 ^ W) g ∙ mod_self (2 ^ W))

  -- one less
  modulo-pred : (z : ℤ) → modulo W (pred_ℤ z) ≡ (modulo W z + (2 ^ W - 1)) % 2 ^ W
  modulo-pred z =
      let r : ℕ = modulo W (pred_ℤ z) in
      let e : modulo W z ≡ (r + 1) % 2 ^ W = ap (modulo W) (sym (suc-pred z)) ∙ modulo-suc (pred_ℤ z) in
      let f : r + 1 + (2 ^ W - 1) ≡ r + 2 ^ W = omega (arith, some) in
      sym
      (ap (λ (x : ℕ). (x + (2 ^ W - 1)) % 2 ^ W) e ∙ mod-add-mod (r + 1) (2 ^ W) (2 ^ W - 1)
      ∙ ap (λ (x : ℕ). x % 2 ^ W) f
      ∙ add-mod_right r (2 ^ W) ∙ mod-eq_of_lt (modulo_lt (pred_ℤ z)))

  -- k more of the second summand
  more : (a b k : ℕ) → ((a + b) % 2 ^ W + k) % 2 ^ W ≡ (a + (b + k) % 2 ^ W) % 2 ^ W
  more a b k =
      mod-add-mod (a + b) (2 ^ W) k ∙ ap (λ (x : ℕ). x % 2 ^ W) (add_assoc a b k)
      ∙ sym (add-mod-mod a (b + k) (2 ^ W))

  up : (a b : ℤ) → modulo W (a +ℤ b) ≡ (modulo W a + modulo W b) % 2 ^ W
      → modulo W (a +ℤ suc_ℤ b) ≡ (modulo W a + modulo W (suc_ℤ b)) % 2 ^ W
  up a b h =
      ap (modulo W) (+ℤ-suc_ℤ a b) ∙ modulo-suc (a +ℤ b) ∙ ap (λ (x : ℕ). (x + 1) % 2 ^ W) h
      ∙ more (modulo W a) (modulo W b) 1
      ∙ ap (λ (x : ℕ). (modulo W a + x) % 2 ^ W) (sym (modulo-suc b))

  down : (a b : ℤ) → modulo W (a +ℤ b) ≡ (modulo W a + modulo W b) % 2 ^ W
      → modulo W (a +ℤ pred_ℤ b) ≡ (modulo W a + modulo W (pred_ℤ b)) % 2 ^ W
  down a b h =
      ap (modulo W) (+ℤ-pred_ℤ a b) ∙ modulo-pred (a +ℤ b) ∙ ap (λ (x : ℕ). (x + (2 ^ W - 1)) % 2 ^ W) h
      ∙ more (modulo W a) (modulo W b) (2 ^ W - 1) ∙ ap (λ (x : ℕ). (modulo W a + x) % 2 ^ W) (sym (modulo-pred b))

  none_more : (a : ℤ) → modulo W (a +ℤ pos 0) ≡ (modulo W a + modulo W (pos 0)) % 2 ^ W
  unfolding modulo
  none_more a =
      ap (modulo W) (+ℤ_idr a)
      ∙ sym
      (ap (λ (x : ℕ). (modulo W a + x) % 2 ^ W) (zero-mod (2 ^ W)) ∙ ap (λ (x : ℕ). x % 2 ^ W) (omega arith)
      ∙ mod-eq_of_lt (modulo_lt a))

  -- a sum's remainder is the wrapped sum of the remainders
  pub modulo_add : (a b : ℤ) → modulo W (a +ℤ b) ≡ (modulo W a + modulo W b) % 2 ^ W
  modulo_add a (pos zero) = none_more a
  modulo_add a (pos (suc k)) = up a (pos k) (modulo_add a (pos k))
  modulo_add a (negsuc zero) = down a (pos 0) (none_more a)
  modulo_add a (negsuc (suc k)) = down a (negsuc k) (modulo_add a (negsuc k))

  -- ---- there and back

  -- what stands for a remainder has it
  pub modulo-signed : (m : ℕ) → m < 2 ^ W → modulo W (signed W m) ≡ m
  unfolding modulo signed
  modulo-signed m h = go (nat_lt m (2 ^ W / 2))
    where
      go : (t : Bool) → modulo W (cond t (pos m) (negsuc (2 ^ W - suc m))) ≡ m
      go true = mod-eq_of_lt h
      go false =
          let e : (2 ^ W - suc m) % 2 ^ W ≡ 2 ^ W - suc m = mod-eq_of_lt (omega arith) in
          omega arith

  -- a signed number of W bits stands for its remainder
  pub signed-modulo : (z : ℤ) → Within W z → signed W (modulo W z) ≡ z
  unfolding modulo signed
  signed-modulo (pos k) h =
      let e : k % 2 ^ W ≡ k = mod-eq_of_lt (omega arith) in
      rw (e, lt-ltb k (2 ^ W / 2) h)
  signed-modulo (negsuc k) h =
      let e : k % 2 ^ W ≡ k = mod-eq_of_lt (omega arith) in
      let f : 2 ^ W - suc (2 ^ W - suc k) ≡ k = omega arith in
      rw (e, le-ltb (2 ^ W - suc k) (2 ^ W / 2) (omega arith)) (ap negsuc f)

  pub modulo-wrapped : (z : ℤ) → modulo W (wrapped W z) ≡ modulo W z
  modulo-wrapped z = modulo-signed (modulo W z) (modulo_lt z)

pub signed-within : (W m : ℕ) → 0 < W → Within W (signed W m)
unfolding signed
signed-within zero m some = absurd (omega arith)
signed-within (suc W) m some = go (nat_lt m (2 ^ suc W / 2)) refl
  where
    go : (t : Bool) → nat_lt m (2 ^ suc W / 2) ≡ t → Within (suc W) (cond t (pos m) (negsuc (2 ^ suc W - suc m)))
    go true e = ltb-true m (2 ^ suc W / 2) e
    go false e = omega (arith, ltb-false m (2 ^ suc W / 2) e, pow-suc 2 W, pow_pos W)

pub wrapped-within : (W : ℕ) (z : ℤ) → 0 < W → Within W (wrapped W z)
wrapped-within W z h = signed-within W (modulo W z) h
