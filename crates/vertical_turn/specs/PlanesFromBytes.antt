-- Planes made of the entries' bytes: gathered from every eighth entry, and turned.
use Rattle.std.specs.Prelude.{◌≡◌, length, drop, get_or}
use Rattle.std.proofs.Math.Path.{refl, ap}
use Rattle.std.proofs.Common.{sym, ap₂, ◌∙◌, zero-add, arith, get_or-drop}
use mathlib.Core.List.{List, [], ◌∷◌}
use Prim.Native.Nat.{ℕ, suc, ◌+◌, ◌-◌, ◌*◌, ◌/◌, ◌%◌, ◌^◌, ◌≤◌, ◌<◌}
use Rattle.std.proofs.Math.Nat.{zero-div}
use Rattle.std.proofs.Math.ListN.{get_or-eq_default}
use Rattle.rules.specs.Bits.{bit, joined, number, tabulate, put}
use Rattle.rules.specs.Vertical.{plane}
use Rattle.words.specs.Bits.{ext, bit_shr, bit_mod}
use Rattle.words.specs.Bytes.{number_step}
use Rattle.words.specs.Entries.{number_short}
use Rattle.words.specs.Joined.{Small}
use Rattle.words.specs.Tabulated.{length-tabulate, get_or-tabulate, small-tabulate, tabulate-ext}
use Rattle.packed_entries.specs.Digits.{joined-digit}
use Rattle.vertical_compare.specs.Lanes.{bit-lane}
use Rattle.vertical_turn.specs.Planes.{plane_lt, bit-plane}
use Rattle.vertical_turn.specs.GroupThereAndBack.{get_or-tabulate-zero}
use Rattle.vertical_turn.specs.Turned.{turned, turned-fits, turned_byte}
use Rattle.vertical_turn.specs.Rows.{get_or-put-front}

-- eight bits of entry 8 × b + 7 − r, from bit `low` on
unfoldable pub byte_of : List ℕ → ℕ → ℕ → ℕ → ℕ
byte_of xs low r b = get_or xs (8 * b + (7 - r)) 0 / 2 ^ low % 256

unfoldable pub gathered : List ℕ → ℕ → ℕ → ℕ
gathered xs low r = number (tabulate 8 (byte_of xs low r))

module _ (xs : List ℕ) (low r : ℕ) where
  bytes_small : Small 8 (tabulate 8 (byte_of xs low r))
  unfolding byte_of
  bytes_small = small-tabulate 8 8 (byte_of xs low r) (λ b. omega arith)

  -- the bytes from b on
  unfoldable pub gathered_from : ℕ → ℕ
  gathered_from b = number (drop b (tabulate 8 (byte_of xs low r)))

  pub gathered_all : gathered_from 0 ≡ gathered xs low r
  unfolding gathered_from gathered
  gathered_all = refl

  -- one byte more
  pub gathered-step : (b : ℕ) → b < 8
      → gathered_from b ≡ gathered_from (b + 1) * 256 + get_or xs (8 * b + (7 - r)) 0 / 2 ^ low % 256
  unfolding gathered_from byte_of
  gathered-step b h =
      let s : List ℕ = tabulate 8 (byte_of xs low r) in
      number_step s b (omega (arith, length-tabulate 8 (byte_of xs low r)))
      ∙ ap (λ (x : ℕ). number (drop (b + 1) s) * 256 + x) (get_or-tabulate 8 (byte_of xs low r) b 0 h)

  pub gathered-fits : (b : ℕ) → gathered_from b < 2 ^ 64
  unfolding gathered_from
  gathered-fits b =
      number_short (tabulate 8 (byte_of xs low r)) b bytes_small (omega (arith, length-tabulate 8 (byte_of xs low r)))

-- no byte is set
zeros-number : (l : List ℕ) → ((k : ℕ) → get_or l k 0 ≡ 0) → number l ≡ 0
unfolding joined
zeros-number [] h = refl
zeros-number (x ∷ l) h = omega (arith, h 0, zeros-number l (λ k. h (suc k)))

-- past the last entry
pub gathered_none : (xs : List ℕ) (low r b : ℕ) → r < 8 → length xs ≤ 8 * b + (7 - r) → gathered_from xs low r b ≡ 0
unfolding gathered_from byte_of
gathered_none xs low r b small past =
    let f : ℕ → ℕ = byte_of xs low r in
    let none : (k : ℕ) → f (b + k) ≡ 0 =
    λ k. ap (λ (x : ℕ). x / 2 ^ low % 256) (get_or-eq_default xs 0 {n = 8 * (b + k) + (7 - r)} (omega arith)) ∙
    ap (λ (x : ℕ). x % 256) (zero-div (2 ^ low)) in
    zeros-number (drop b (tabulate 8 f))
    (λ k. get_or-drop b (tabulate 8 f) k 0 ∙ get_or-tabulate-zero 8 f (b + k) (λ h. none k) ∙ none k)

-- bit 8 × b + i of a gathered word is bit low + i of entry 8 × b + 7 − r
pub bit-gathered : (xs : List ℕ) (low r b i : ℕ) → b < 8 → i < 8
    → bit (gathered xs low r) (b * 8 + i) ≡ bit (get_or xs (8 * b + (7 - r)) 0) (low + i)
unfolding gathered byte_of
bit-gathered xs low r b i hb hi =
    let s : List ℕ = tabulate 8 (byte_of xs low r) in
    sym (bit_shr (number s) (b * 8) i) ∙ sym (bit_mod 8 (number s / 2 ^ (b * 8)) i hi)
    ∙ ap (λ (x : ℕ). bit x i) (joined-digit 8 s b (bytes_small xs low r) ∙ get_or-tabulate 8 (byte_of xs low r) b 0 hb)
    ∙ bit_mod 8 (get_or xs (8 * b + (7 - r)) 0 / 2 ^ low) i hi ∙ bit_shr (get_or xs (8 * b + (7 - r)) 0) low i

-- the turned words are the planes
pub turned-gathered : (xs z : List ℕ) (w low i k : ℕ) → i < 8 → low + i ≡ w - 1 - k
    → turned (put z 0 (tabulate 8 (gathered xs low))) 0 8 i ≡ plane w xs 0 k
turned-gathered xs z w low i k hi place = ext 64 (turned-fits words 0 8 i (omega arith)) (plane_lt w xs 0 k) same
  where
    words : List ℕ
    words = put z 0 (tabulate 8 (gathered xs low))

    word : (r : ℕ) → r < 8 → get_or words (0 + r) 0 ≡ gathered xs low r
    word r h =
        ap (λ (j : ℕ). get_or words j 0) (zero-add r)
        ∙ get_or-put-front z (tabulate 8 (gathered xs low)) r (omega (arith, length-tabulate 8 (gathered xs low)))
        ∙ get_or-tabulate 8 (gathered xs low) r 0 h

    same : (j : ℕ) → j < 64 → bit (turned words 0 8 i) j ≡ bit (plane w xs 0 k) j
    same j h =
        let b : ℕ = j / 8 in
        let d : ℕ = j % 8 in
        let x : ℕ = turned words 0 8 i in
        let split : b * 8 + d ≡ j = omega arith in
        let back : 8 * b + (7 - (8 - 1 - d)) ≡ 64 * 0 + j = omega arith in
        ap (bit x) (sym split) ∙ sym (bit_shr x (b * 8) d) ∙ sym (bit_mod 8 (x / 2 ^ (b * 8)) d (omega arith))
        ∙ ap (λ (y : ℕ). bit y d) (turned_byte words 0 8 i (omega arith) b (omega arith))
        ∙ bit-lane words 0 8 (b * 8 + i) d (omega arith)
        ∙ ap (λ (y : ℕ). bit y (b * 8 + i)) (word (8 - 1 - d) (omega arith))
        ∙ bit-gathered xs low (8 - 1 - d) b i (omega arith) hi
        ∙ ap₂ (λ (p q : ℕ). bit (get_or xs p 0) q) back place
        ∙ sym (bit-plane w xs 0 k j h)

-- word n − 1 − t of those that n gathered bits make
unfoldable pub turned_down : List ℕ → ℕ → ℕ → ℕ
turned_down words n t = turned words 0 8 (n - 1 - t)

-- n planes from plane k on
pub laid_planes : (xs z : List ℕ) (w k n : ℕ) → n ≤ 8 → k + n ≤ w
    → tabulate n (turned_down (put z 0 (tabulate 8 (gathered xs (w - k - n)))) n)
    ≡ tabulate n (λ t. plane w xs 0 (k + t))
unfolding turned_down
laid_planes xs z w k n few fits =
    tabulate-ext n (turned_down (put z 0 (tabulate 8 (gathered xs (w - k - n)))) n) (λ t. plane w xs 0 (k + t))
    (λ t h. turned-gathered xs z w (w - k - n) (n - 1 - t) (k + t) (omega arith) (omega arith))
