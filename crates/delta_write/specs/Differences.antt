-- A difference of remainders modulo 2^W, by what it is added to.
use Rattle.std.specs.Prelude.{◌≡◌, ℕ, ◌+◌, ◌-◌, ◌%◌, ◌^◌, ◌<◌, true, ℤ, pos, ◌-ℤ◌, int_le}
use Rattle.std.proofs.Common.{sym, ◌∙◌, mod-eq_of_lt, add_comm, arith}
use Rattle.std.proofs.Math.Path.{ap}
use Rattle.std.proofs.Math.Nat.{mod-add-mod, add-mod_right}
use Rattle.std.proofs.Math.IntN as IntN
use Rattle.rules.specs.Signed.{modulo, Within, gap}
use Rattle.signed.specs.Remainders.{modulo_lt, modulo_add}
use Rattle.signed.specs.Gaps.{gap_is, gap_lt}

module _ (W : ℕ) where
  back : (r b : ℕ) → r < 2 ^ W → b < 2 ^ W → ((r + b) % 2 ^ W + (2 ^ W - b)) % 2 ^ W ≡ r
  back r b h k =
      let e : r + b + (2 ^ W - b) ≡ r + 2 ^ W = omega arith in
      mod-add-mod (r + b) (2 ^ W) (2 ^ W - b) ∙ ap (λ (x : ℕ). x % 2 ^ W) e ∙ add-mod_right r (2 ^ W) ∙ mod-eq_of_lt h

  cancel : (r s b : ℕ) → r < 2 ^ W → s < 2 ^ W → b < 2 ^ W → (r + b) % 2 ^ W ≡ (s + b) % 2 ^ W → r ≡ s
  cancel r s b h k l e = sym (back r b h l) ∙ ap (λ (x : ℕ). (x + (2 ^ W - b)) % 2 ^ W) e ∙ back s b k l

  -- it is the difference's remainder
  pub difference_kept : (r : ℕ) (y x : ℤ) → r < 2 ^ W → (r + modulo W x) % 2 ^ W ≡ modulo W y → r ≡ modulo W (y -ℤ x)
  difference_kept r y x h e =
      cancel r (modulo W (y -ℤ x)) (modulo W x) h (modulo_lt W (y -ℤ x)) (modulo_lt W x)
      (e ∙ ap (modulo W) (sym (IntN.-ℤ-+ℤ_cancel y x)) ∙ modulo_add W (y -ℤ x) x)

  -- and how far y is above x, where both have W bits
  pub difference_gap : (r : ℕ) (y x : ℤ) → Within W y → Within W x → int_le x y ≡ true → r < 2 ^ W
      → (r + modulo W x) % 2 ^ W ≡ modulo W y → r ≡ gap y x
  unfolding modulo
  difference_gap r y x fits fits' l h e =
      let g : ℕ = gap y x in
      let small : g < 2 ^ W = gap_lt W y x fits fits' in
      let sum : modulo W y ≡ (g + modulo W x) % 2 ^ W =
      ap (modulo W) (sym (gap_is y x l)) ∙ modulo_add W x (pos g)
      ∙ ap (λ (k : ℕ). (modulo W x + k) % 2 ^ W) (mod-eq_of_lt small)
      ∙ ap (λ (k : ℕ). k % 2 ^ W) (add_comm (modulo W x) g) in
      cancel r g (modulo W x) h small (modulo_lt W x) (e ∙ sum)
