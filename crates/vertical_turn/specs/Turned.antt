-- Words turned byte by byte: of eight words every eighth bit, from bit i on, makes one word, in which byte b is
-- lane 8 × b + i.
use Rattle.std.specs.Prelude.{◌≡◌, refl, List, get_or}
use Rattle.std.proofs.Common.{sym, ap, ap₂, ◌∙◌, add_comm, lt_of_lt_of_le, add-one, arith, pow_mono, shr-shr}
use Prim.Native.Nat.{ℕ, ◌+◌, ◌-◌, ◌*◌, ◌/◌, ◌%◌, ◌^◌, ◌≤◌, ◌<◌}
use Rattle.std.specs.Int.Bits.{bit_and}
use Rattle.rules.specs.Bits.{bit, joined, number, tabulate}
use Rattle.rules.specs.Vertical.{lane}
use Rattle.words.specs.Joined.{Small, joined_lt}
use Rattle.words.specs.Tabulated.{length-tabulate, get_or-tabulate, small-tabulate}
use Rattle.packed_entries.specs.Digits.{joined-digit}
use Rattle.vertical_compare.specs.Lanes.{lane_lt}
use Rattle.vertical_turn.specs.Fields.{fields, fields-ext, fields_add, fields_mul, fields_mask}

-- of n words from word `at` on
unfoldable pub turned : List ℕ → ℕ → ℕ → ℕ → ℕ
turned words at n i = number (tabulate 8 (λ b. lane words at n (b * 8 + i)))

pub turned_none : (words : List ℕ) (at i : ℕ) → turned words at 0 i ≡ 0
unfolding turned joined tabulate lane
turned_none words at i = refl

-- bit 0 of each byte
lowest : 72340172838076673 ≡ fields 8 8 (λ b. 2 ^ 1 - 1)
unfolding joined tabulate
lowest = refl

-- every eighth bit of a word
eighths : (x i : ℕ) → bit_and (x / 2 ^ i) 72340172838076673 ≡ fields 8 8 (λ b. bit x (b * 8 + i))
unfolding bit
eighths x i =
    ap (bit_and (x / 2 ^ i)) lowest ∙ fields_mask 8 8 1 (x / 2 ^ i) (omega arith)
    ∙ fields-ext 8 8 _ _
    (λ b l. ap (λ (y : ℕ). y % 2) (shr-shr x i (b * 8) ∙ ap (λ (k : ℕ). x / 2 ^ k) (add_comm i (b * 8))))

-- one word more
pub turned-next : (words : List ℕ) (at k i : ℕ)
    → turned words at (k + 1) i ≡ turned words at k i * 2 + bit_and (get_or words (at + k) 0 / 2 ^ i) 72340172838076673
unfolding turned lane
turned-next words at k i =
    let f : ℕ → ℕ = λ b. lane words at k (b * 8 + i) in
    let g : ℕ → ℕ = λ b. bit (get_or words (at + k) 0) (b * 8 + i) in
    rw add-one (sym
    (ap₂ (λ (x y : ℕ). x + y) (fields_mul 8 8 f 2) (eighths (get_or words (at + k) 0) i)
    ∙ fields_add 8 8 (λ b. f b * 2) g))

module _ (words : List ℕ) (at n i : ℕ) (few : n ≤ 8) where
  byte_lane : (b : ℕ) → lane words at n (b * 8 + i) < 2 ^ 8
  byte_lane b = lt_of_lt_of_le (lane_lt words at n (b * 8 + i)) (pow_mono {i = n} {j = 8} few)

  small-lanes : Small 8 (tabulate 8 (λ b. lane words at n (b * 8 + i)))
  small-lanes = small-tabulate 8 8 (λ b. lane words at n (b * 8 + i)) byte_lane

  pub turned-fits : turned words at n i < 2 ^ 64
  unfolding turned
  turned-fits =
      let f : ℕ → ℕ = λ b. lane words at n (b * 8 + i) in
      rw (length-tabulate 8 f) at (joined_lt 8 (tabulate 8 f) small-lanes)

  -- byte b
  pub turned_byte : (b : ℕ) → b < 8 → turned words at n i / 2 ^ (b * 8) % 2 ^ 8 ≡ lane words at n (b * 8 + i)
  unfolding turned
  turned_byte b h =
      let f : ℕ → ℕ = λ b. lane words at n (b * 8 + i) in
      joined-digit 8 (tabulate 8 f) b small-lanes ∙ get_or-tabulate 8 f b 0 h
