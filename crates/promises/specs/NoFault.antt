-- When a listed fault is not there, in plain conditions: the faults of several layouts.
use Rattle.std.specs.Prelude.{◌≡◌, Bool, false, not, List, ◌↔◌, ℕ, ◌≤◌, ltb, eqb}
use Rattle.std.proofs.Common.{ap, arith, ltb-false, le-ltb, eqb-true, eq-eqb}
use Rattle.std.proofs.Math.Logic.Iff
use Rattle.std.proofs.lemmas.Bool.{not-false}
use Rattle.rules.specs.Bits.{ceil}
use Rattle.rules.specs.Answer.{faulty, ◌then◌, count_fault, limit_fault, operator_fault, room_fault}
use Rattle.rules.specs.Answer.{any_large, large_fault}
use Rattle.words.specs.Joined.{Small}
use Rattle.packed_entries.specs.NoneTooLarge.{small_of, large_of}
use Rattle.answers.specs.Laws.{then_none, then_zero, not-faulty}

-- both hold
infixr 3 ◌and◌
abbrev pub ◌and◌ : Type 0 → Type 0 → Type 0
P and Q = P × Q

-- neither of two faults is there
pub neither : {P Q : Type 0} (a b : ℕ) → (a ≡ 0 ↔ P) → (b ≡ 0 ↔ Q) → (a then b) ≡ 0 ↔ P and Q
neither a b p q = Iff.trans (then_zero a b, λ none. rw (then_none a b none.0) none.1) (Iff.and p q)

-- a fault is not there where its test is false
pub no_fault : (t : Bool) (code : ℕ) → (code ≡ 0 → ⊥) → faulty t code ≡ 0 ↔ t ≡ false
no_fault t code some = (not-faulty t code some, λ e. rw e)

-- a fault given where x is below y
pub not-below : (x y code : ℕ) → (code ≡ 0 → ⊥) → faulty (ltb x y) code ≡ 0 ↔ y ≤ x
not-below x y code some = Iff.trans (no_fault (ltb x y) code some) (ltb-false x y, le-ltb x y)

-- a test that there is a rest
pub no_rest : (m : ℕ) → not (eqb m 0) ≡ false ↔ m ≡ 0
no_rest m = (λ e. eqb-true m 0 (not-false _ e), λ e. ap not (eq-eqb m 0 e))

-- 2
pub count_kept : (n : ℕ) → count_fault n ≡ 0 ↔ n ≤ 16384
count_kept n = not-below 16384 n 2 (λ e. omega arith)

-- 1, 2
pub limits-kept : (w n : ℕ) → limit_fault w n ≡ 0 ↔ w ≤ 32 and n ≤ 16384
unfolding limit_fault
limits-kept w n = neither _ _ (not-below 32 w 1 (λ e. omega arith)) (count_kept n)

-- 3
pub operator_known : (op : ℕ) → operator_fault op ≡ 0 ↔ op ≤ 7
unfolding operator_fault
operator_known op = not-below 7 op 3 (λ e. omega arith)

-- 4
pub room-enough : (places need : ℕ) → room_fault places need ≡ 0 ↔ need ≤ places
unfolding room_fault
room-enough places need = not-below places need 4 (λ e. omega arith)

-- 8
pub entries_fit : (w : ℕ) (xs : List ℕ) → large_fault w xs ≡ 0 ↔ Small w xs
unfolding large_fault
entries_fit w xs = Iff.trans (no_fault (any_large w xs) 8 (λ e. omega arith)) (small_of w xs, large_of w xs)

-- when a call finds no fault, over the faults of the arguments' limits, of the page and of the entries, and what
-- their absence says
module _ {Kept Exact : Type 0} (limits page : ℕ) (kept : limits ≡ 0 ↔ Kept) (exact : page ≡ 0 ↔ Exact)
    (n places : ℕ) where
  pub scan_good : (op : ℕ)
      → (limits then operator_fault op then room_fault places (ceil n 8) then page) ≡ 0
      ↔ Kept and op ≤ 7 and ceil n 8 ≤ places and Exact
  scan_good op =
      neither _ _ kept (neither _ _ (operator_known op) (neither _ _ (room-enough places (ceil n 8)) exact))

  pub unpack-good : (limits then room_fault places n then page) ≡ 0 ↔ Kept and n ≤ places and Exact
  unpack-good = neither _ _ kept (neither _ _ (room-enough places n) exact)

pub pack-good : {Kept Fit : Type 0} (limits entries : ℕ) → (limits ≡ 0 ↔ Kept) → (entries ≡ 0 ↔ Fit)
    → (places need : ℕ)
    → (limits then entries then room_fault places need) ≡ 0 ↔ Kept and Fit and need ≤ places
pack-good limits entries kept fit places need = neither _ _ kept (neither _ _ fit (room-enough places need))
