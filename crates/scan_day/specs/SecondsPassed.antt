-- What is kept of the seconds passed: how many, how many of them selected, the first and the last of these, and how
-- many of each cell.
use Rattle.std.specs.Prelude.{◌≡◌, Bool, true, false, cond, ◌&&◌, List, eqb, ltb, get_or, set}
use Rattle.std.proofs.Common.{Option, None, Some, sym, ap, ◌∙◌, eq-eqb, ne_eqb}
use Prim.Native.Nat.{ℕ, zero, suc, ◌+◌, ◌-◌, ◌/◌, ◌^◌, ◌≤◌, ◌<◌, min}
use native.Mathlib.Omega.{arith}
use Rattle.std.proofs.lemmas.Bool.Decides.{nat_tests}
use Rattle.rules.specs.Bits.{flag, bit_at}
use Rattle.rules.specs.Bits.Order.{low_first}
use Rattle.scan_day.specs.declared.passing.Ends.{Ends}
use Rattle.scan_day.specs.declared.passing.Passed.{Passed}

-- one more, where 64 bits have room for it
abbrev pub more : ℕ → ℕ
more x = cond (ltb x 18446744073709551615) (x + 1) x

pub more-saturates : (x : ℕ) → x < 2 ^ 64 → min (x + 1) (2 ^ 64 - 1) ≡ more x
more-saturates x fits = grind (arith, nat_tests)

abbrev pub fresh : Passed
fresh = record { read = 0; count = 0; ends = None; lost = 0 }

abbrev pub losing : Passed → Passed
losing p =
    record { read = p.read; count = p.count; ends = p.ends; lost = more p.lost }

abbrev pub reading : Passed → Passed
reading p =
    record { read = more p.read; count = p.count; ends = p.ends; lost = p.lost }

-- the first selected second, where another one is selected
abbrev pub first_of : ℕ → Option Ends → ℕ
first_of s None = s
first_of s (Some ends) = ends.first

abbrev pub selecting : ℕ → Passed → Passed
selecting s p =
    record {
      read = p.read;
      count = more p.count;
      ends = Some record { first = first_of s p.ends; last = s };
      lost = p.lost;
    }

-- a second more, selected or not
abbrev pub passing : Bool → ℕ → Passed → Passed
passing chosen s p = cond chosen (selecting s (reading p)) (reading p)

-- one second more in its cell of twenty minutes, which has room for 1,200; past 195 days there are no cells
abbrev pub in_cell : ℕ → List ℕ → List ℕ
in_cell s cells =
    cond (ltb (s / 1200) 14040 && ltb (get_or cells (s / 1200) 0) 1200)
    (set cells (s / 1200) (get_or cells (s / 1200) 0 + 1)) cells

-- the same of a second that is counted, or is not
abbrev pub counting : Bool → ℕ → List ℕ → List ℕ
counting chosen s cells = cond chosen (in_cell s cells) cells

-- what n seconds leave, each by one step, one after the other from one on
unfoldable pub stepped : {A : Type 0} → (Bool → ℕ → A → A) → (ℕ → Bool) → ℕ → ℕ → A → A
stepped step chosen from zero a = a
stepped step chosen from (suc n) a = step (chosen (from + n)) (from + n) (stepped step chosen from n a)

abbrev pub passed : (ℕ → Bool) → ℕ → ℕ → Passed → Passed
passed = stepped passing

abbrev pub counts : (ℕ → Bool) → ℕ → ℕ → List ℕ → List ℕ
counts = stepped counting

-- is a second of a page selected, bit 0 of its bitmap being the page's first second
abbrev pub chosen_by : List ℕ → ℕ → ℕ → Bool
chosen_by bitmap start s = eqb (bit_at low_first 8 bitmap (s - start)) 1

pub flag_is : (t : Bool) (x : ℕ) → flag t ≡ x → t ≡ eqb x 1
flag_is true x e = sym (eq-eqb x 1 (sym e))
flag_is false x e = sym (ne_eqb x 1 (λ one. omega arith))

module _ {A : Type 0} (step : Bool → ℕ → A → A) (chosen : ℕ → Bool) (from : ℕ) (before : A) where
  pub stepped-none : before ≡ stepped step chosen from (from - from) before
  unfolding stepped
  stepped-none = let none : from - from ≡ 0 = omega arith in rw none

  pub stepped-next : (s : ℕ) (t : Bool) (d r : A) → from ≤ s → t ≡ chosen s
      → d ≡ stepped step chosen from (s - from) before → r ≡ step t s d
      → r ≡ stepped step chosen from (s + 1 - from) before
  unfolding stepped
  stepped-next s t d r h e so is =
      let one : s + 1 - from ≡ suc (s - from) = omega arith in
      let place : from + (s - from) ≡ s = omega arith in
      rw (one, place, ← so, ← e) is

  pub stepped_all : (s end : ℕ) (d : A) → s - from ≤ end - from → end ≤ s
      → d ≡ stepped step chosen from (s - from) before → d ≡ stepped step chosen from (end - from) before
  stepped_all s end d h k so =
      let all : s - from ≡ end - from = omega arith in so ∙ ap (λ (n : ℕ). stepped step chosen from n before) all
