-- The two ways in which a call ends, for every layout and operation.
use Rattle.std.specs.Prelude.{◌≡◌, refl, List, Bool, true, false, ltb, Result, Ok, Err, IsErr, IsErrAnd}
use Rattle.std.proofs.Common.{sym, ap, arith, ltb-false}
use Prim.Native.Nat.{ℕ, zero, suc, ◌≤◌}
use Rattle.rules.specs.Bits.{put}
use Rattle.rules.specs.Answer.{faulty, ◌then◌, count_fault, limit_fault, room_fault, accepted, refusal, answered}
use Rattle.rules.specs.Answer.Outcome.{outcome}
use Rattle.rules.specs.Refusals.{code, fault, answer_of}
use Rattle.rules.specs.declared.Answer.{Answer}
use Rattle.rules.specs.declared.Refusal.{Refusal}
use Rattle.rules.specs.declared.Refusal.TheVariants.{WidthAboveLimit, TooManyEntries, OperatorAbove7, OutputTooShort}
use Rattle.rules.specs.declared.Refusal.TheVariants.{InputEndsTooEarly, InputLeftOver, UnusedBitsNot0, ValueTooLarge}
use Rattle.rules.specs.declared.Refusal.TheVariants.{NumberBeyondItsBits, RunOfLength0, RunPastN, DeltaShape}
use Rattle.rules.specs.declared.Refusal.TheVariants.{DeltaCountNotN, MalformedDictionary, IndexTooLarge, SpansMisplaced}

-- ---- the order of faults

-- a fault that is found ends the search
pub then_found : (a b code : ℕ) → a ≡ code → (code ≡ 0 → ⊥) → (a then b) ≡ code
unfolding ◌then◌
then_found zero b code e some = absurd (some (sym e))
then_found (suc a) b code e some = e

-- none was found so far
pub then_none : (a b : ℕ) → a ≡ 0 → (a then b) ≡ b
unfolding ◌then◌
then_none zero b e = refl
then_none (suc a) b e = absurd (omega arith)

-- none is found behind it
pub then_last : (a b : ℕ) → b ≡ 0 → (a then b) ≡ a
unfolding ◌then◌
then_last zero b e = e
then_last (suc a) b e = refl

-- no refusal's number is 0
pub code_some : (r : Refusal) → code r ≡ 0 → ⊥
code_some WidthAboveLimit e = omega (arith, e)
code_some TooManyEntries e = omega (arith, e)
code_some OperatorAbove7 e = omega (arith, e)
code_some OutputTooShort e = omega (arith, e)
code_some InputEndsTooEarly e = omega (arith, e)
code_some InputLeftOver e = omega (arith, e)
code_some UnusedBitsNot0 e = omega (arith, e)
code_some ValueTooLarge e = omega (arith, e)
code_some NumberBeyondItsBits e = omega (arith, e)
code_some RunOfLength0 e = omega (arith, e)
code_some RunPastN e = omega (arith, e)
code_some DeltaShape e = omega (arith, e)
code_some DeltaCountNotN e = omega (arith, e)
code_some MalformedDictionary e = omega (arith, e)
code_some IndexTooLarge e = omega (arith, e)
code_some SpansMisplaced e = omega (arith, e)

-- a judgement that refuses ends the search, and one that does not lets it go on
pub then_refused : (a b : ℕ) (r : Refusal) → code r ≡ a → (a then b) ≡ code r
then_refused a b r e = then_found a b (code r) (sym e) (code_some r)

pub then_judged : (a b : ℕ) → 0 ≡ a → (a then b) ≡ b
then_judged a b e = then_none a b (sym e)

-- what a `?` passes up is the refusal itself
pub passed_up : {A : Type 0} (came : Result A Refusal) (r : Refusal) → IsErr came × IsErrAnd came (λ x. x ≡ r)
    → came ≡ Err r
passed_up (Ok x) r h = absurd h.1
passed_up (Err x) r h = ap Err h.1

-- what is known where no fault was found
pub not-faulty : (t : Bool) (code : ℕ) → (code ≡ 0 → ⊥) → faulty t code ≡ 0 → t ≡ false
not-faulty true code some e = absurd (some e)
not-faulty false code some e = refl

pub then_zero : (a b : ℕ) → (a then b) ≡ 0 → (a ≡ 0) × (b ≡ 0)
unfolding ◌then◌
then_zero zero b e = (refl, e)
then_zero (suc a) b e = absurd (omega arith)

pub within_count : (n : ℕ) → count_fault n ≡ 0 → n ≤ 16384
within_count n e = ltb-false 16384 n (not-faulty _ 2 (λ h. omega arith) e)

pub within-limits : (w n : ℕ) → limit_fault w n ≡ 0 → (w ≤ 32) × (n ≤ 16384)
unfolding limit_fault
within-limits w n e =
    let z = then_zero (faulty (ltb 32 w) 1) (count_fault n) e in
    (ltb-false 32 w (not-faulty _ 1 (λ h. omega arith) z.0), within_count n z.1)

pub has_room : (places need : ℕ) → room_fault places need ≡ 0 → need ≤ places
unfolding room_fault
has_room places need e = ltb-false places need (not-faulty _ 4 (λ h. omega arith) e)

-- ---- what a call leaves

module _ {A : Type 0} (n : ℕ) (wrote before : List A) where
  -- a code that is not 0 was found, and nothing was written
  pub refused_is : (r : Answer) (code fault : ℕ) → r ≡ refusal code → fault ≡ code → (code ≡ 0 → ⊥)
      → outcome r before ≡ answered fault n wrote before
  unfolding answered
  refused_is r zero fault e f some = absurd (some refl)
  refused_is r (suc code) fault e f some = rw (e, f)

  -- likewise where a refusal is given
  pub refused_call : (r : Refusal) (found : ℕ) → found ≡ code r
      → outcome (answer_of (Err r)) before ≡ answered found n wrote before
  refused_call r found e = refused_is (refusal (code r)) (code r) found refl e (code_some r)

  -- no fault was found, and all was written
  pub accepted_is : (r : Answer) (fault : ℕ) (after : List A) → fault ≡ 0 → r ≡ accepted n
      → after ≡ put before 0 wrote → outcome r after ≡ answered fault n wrote before
  unfolding answered
  accepted_is r fault after f e w = rw (f, e, w)
