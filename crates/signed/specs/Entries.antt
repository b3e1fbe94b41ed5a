-- The entries of a delta page, kept as remainders or raised: each is reached from the first value by the deltas.
use Rattle.std.specs.Prelude.{◌≡◌, ℕ, zero, suc, ◌+◌, ◌%◌, ◌^◌, ◌<◌, List, ℤ, pos, ◌+ℤ◌, slice_index_or}
use Rattle.std.proofs.Math.Path.{refl, ap}
use Rattle.std.proofs.Common.{sym, ◌∙◌, mod-eq_of_lt, arith}
use Rattle.std.proofs.Math.Nat.{add-mod-mod}
use Rattle.rules.specs.Signed.{modulo, signed, Within}
use Rattle.rules.specs.Delta.{entry_of}
use Rattle.signed.specs.Remainders.{modulo_lt, modulo_add, modulo-wrapped, signed-modulo, wrapped-within}
use Rattle.signed.specs.Raised.{raised}
use Rattle.signed.specs.Reached.{reached, reached-raised}

-- delta j as a step
abbrev pub step : ℕ → List ℤ → ℕ → ℕ
step W ds j = modulo W (slice_index_or ds j (pos 0))

-- smallest delta plus packed number is a step, as remainders too
pub step_is : (W : ℕ) (least : ℤ) (f : ℕ) → modulo W (least +ℤ pos f) % 2 ^ W ≡ (modulo W least + f) % 2 ^ W
unfolding modulo
step_is W least f =
    mod-eq_of_lt (modulo_lt W (least +ℤ pos f)) ∙ modulo_add W least (pos f) ∙ add-mod-mod (modulo W least) f (2 ^ W)

some_bits : (W : ℕ) (z : ℤ) → Within W z → 0 < W
some_bits zero z h = omega arith
some_bits (suc W) z h = omega arith

module _ (W : ℕ) (first : ℤ) (ds : List ℤ) where
  -- an entry's remainder
  pub reached-entry : (i : ℕ) → modulo W (entry_of W first ds i) ≡ reached W (modulo W first) (step W ds) i
  unfolding reached entry_of
  reached-entry zero = refl
  reached-entry (suc i) =
      modulo-wrapped W (entry_of W first ds i +ℤ slice_index_or ds i (pos 0))
      ∙ modulo_add W (entry_of W first ds i) (slice_index_or ds i (pos 0))
      ∙ ap (λ (x : ℕ). (x + step W ds i) % 2 ^ W) (reached-entry i)

  -- an entry raised
  pub raised-entry : (i : ℕ) → raised W (entry_of W first ds i) ≡ reached W (raised W first) (step W ds) i
  unfolding raised
  raised-entry i = rw (reached-entry i) (sym (reached-raised W (modulo W first) (step W ds) _ i))

  -- every entry is a signed number of W bits
  pub entry-within : Within W first → (i : ℕ) → Within W (entry_of W first ds i)
  unfolding entry_of
  entry-within h zero = h
  entry-within h (suc i) = wrapped-within W (entry_of W first ds i +ℤ slice_index_or ds i (pos 0)) (some_bits W first h)

  -- and its remainder stands for it
  pub entry-reached : Within W first → (i : ℕ)
      → signed W (reached W (modulo W first) (step W ds) i) ≡ entry_of W first ds i
  entry-reached h i =
      ap (signed W) (sym (reached-entry i)) ∙ signed-modulo W (entry_of W first ds i) (entry-within h i)
