-- One run's answer made of what is handed back: the five numbers, and how long the part of the page is.
use Rattle.std.specs.Prelude.{◌≡◌, refl, List, [], ◌∷◌, ℕ, ◌-◌, ◌^◌, ◌<◌, ◌≤◌, ltb, leb, length, get_or, take, drop}
use Rattle.std.proofs.Common.{arith, length-take, length-drop, pow_mono, ltb-false}
use Rattle.rules.specs.Runs.{one_at, handed_back, one_run, answer_of, one_answer}
use Rattle.rules.specs.Runs.Handed.{handed}
use Rattle.rules.specs.Runs.{Run}
use Rattle.rules.specs.Runs.Run.{Repeated, Packed, Refused}
use Rattle.rules.specs.declared.RunAnswer.{RunAnswer}
use Rattle.varints.specs.Places.{next-within}
use Rattle.words.specs.Tests.{either}
use Rattle.runs_read.specs.RunRead.{Shown, refuses, repeats, packs, shown}

-- a code is at most 11, a value fits 32 bits, and a packed run lies on the page
abbrev Sized : List ℕ → Run → Type 0
Sized page (Refused code) = code ≤ 11
Sized page (Repeated count value next) = value < 2 ^ 32
Sized page (Packed groups start next) = (start ≤ next) × (next ≤ length page)

one-sized : (w n covered : ℕ) (page : List ℕ) (at : ℕ) → Sized page (one_at w n covered page at)
unfolding one_at
one-sized w n covered page at =
    let S : Run → Type 0 = Sized page in
    either S (ltb 32 w) (λ _. omega arith)
    (λ narrow. either S (ltb 16384 n) (λ _. omega arith)
    (λ _. either S (ltb (length page) at) (λ _. omega arith)
    (λ _. either S (leb n covered) (λ _. omega arith)
    (λ _. read (ltb-false 32 w narrow) (shown w (n - covered) page at)))))
  where
    read : w ≤ 32 → {r : Run} → Shown w (n - covered) page at r → Sized page r
    read narrow (refuses code fault) = fault.1
    read narrow (repeats h p e even some fits there small) = omega (arith, pow_mono {i = w} {j = 32} narrow)
    read narrow (packs h p e odd some fits there) = let b = next-within 32 page at h p e in (omega arith, omega arith)

-- the answer of five numbers, with the place and the size of the part beside them
abbrev pub made : List ℕ → ℕ → ℕ → RunAnswer
made info from size =
    record {
      code = get_or info 0 0;
      kind = get_or info 1 0;
      length = get_or info 2 0;
      value = get_or info 3 0;
      next = get_or info 4 0;
      body_at = from;
      body_len = size;
    }

module _ (page : List ℕ) where
  -- what is to be cast to 32 bits fits them, and the part is no longer than up to the next place
  fits : (run : Run) → Sized page run
      → let x = answer_of run in
      (x.code < 2 ^ 32) × (x.kind < 2 ^ 32) × (x.value < 2 ^ 32) × (x.body_len ≤ x.next)
  fits (Refused code) s = (omega arith, omega arith, omega arith, omega arith)
  fits (Repeated count value next) s = (omega arith, omega arith, s, omega arith)
  fits (Packed groups start next) s = (omega arith, omega arith, omega arith, omega arith)

  -- a packed run's bytes end at the next place
  place : (run : Run) → Sized page run → {from : ℕ}
      → let x = answer_of run in
      (x.kind ≡ 1 → from ≡ x.next - x.body_len) → ((x.kind ≡ 1 → ⊥) → from ≡ 0) → from ≡ x.body_at
  place (Refused code) s packed other = other (λ e. omega arith)
  place (Repeated count value next) s packed other = other (λ e. omega arith)
  place (Packed groups start next) s packed other = omega (arith, packed refl)

  module _ {part info : List ℕ} where
    numbers : (run : Run) → handed part info ≡ handed_back page run
        → let x = answer_of run in info ≡ x.code ∷ x.kind ∷ x.length ∷ x.value ∷ x.next ∷ []
    numbers (Refused code) e = cc
    numbers (Repeated count value next) e = cc
    numbers (Packed groups start next) e = cc

    size : (run : Run) → Sized page run → handed part info ≡ handed_back page run
        → length part ≡ (answer_of run).body_len
    size (Refused code) s e = let p : part ≡ [] = cc in rw p
    size (Repeated count value next) s e = let p : part ≡ [] = cc in rw p
    size (Packed groups start next) s e =
        let p : part ≡ take (next - start) (drop start page) = cc in
        rw p (simp (length-take, length-drop) (omega arith))

-- ---- over the contract of what hands back

module _ (w n covered : ℕ) (page : List ℕ) (at : ℕ) {part info : List ℕ}
    (contract : handed part info ≡ one_run w n covered page at) where
  pub told-fits : (get_or info 0 0 < 2 ^ 32) × (get_or info 1 0 < 2 ^ 32) × (get_or info 3 0 < 2 ^ 32)
      × (length part ≤ get_or info 4 0)
  unfolding one_run
  told-fits =
      let run : Run = one_at w n covered page at in
      let s = one-sized w n covered page at in
      rw (numbers page run contract, size page run s contract) (fits page run s)

  pub told : {from : ℕ} → (get_or info 1 0 ≡ 1 → from ≡ get_or info 4 0 - length part)
      → ((get_or info 1 0 ≡ 1 → ⊥) → from ≡ 0) → made info from (length part) ≡ one_answer w n covered page at
  unfolding one_run one_answer
  told packed other =
      let run : Run = one_at w n covered page at in
      let s = one-sized w n covered page at in
      let is = numbers page run contract in
      let long = size page run s contract in
      rw (is, long, place page run s (rw (is, long) at packed) (rw is at other))
