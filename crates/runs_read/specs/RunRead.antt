-- What a run that was read says of the page, case by case.
use Rattle.std.specs.Prelude.{◌≡◌, List, ℕ, ◌+◌, ◌-◌, ◌*◌, ◌/◌, ◌%◌, ◌^◌, ◌<◌, ◌≤◌, ltb, eqb, length, take, drop, Ok}
use Rattle.std.proofs.Math.Path.{refl}
use Rattle.std.proofs.Common.{sym, ap, ◌∙◌, subst, arith}
use borrow.Author.Tests.{ltb-true, ltb-false, eqb-true, eqb-false}
use Rattle.rules.specs.Bits.{ceil, number}
use Rattle.rules.specs.Varint.{number_at}
use Rattle.rules.specs.Runs.{repeated_at, packed_at, headed, run_at, run_of}
use Rattle.rules.specs.declared.Run as Given
use Rattle.rules.specs.declared.Run.TheVariants as Found
use Rattle.rules.specs.declared.Number.{Number}
use Rattle.rules.specs.declared.Number.TheVariants.{Read, Ended, Beyond}
use Rattle.rules.specs.Runs.{Run}
use Rattle.rules.specs.Runs.Run.{Repeated, Packed, Refused}
use Rattle.varints.specs.Places.{next-within}
use Rattle.words.specs.Tests.{either}

-- a header h was read that ends at p, and what follows it passed every test
pub data Shown (w left : ℕ) (page : List ℕ) (at : ℕ) : Run → Type 0 where
  refuses : (code : ℕ) → (0 < code) × (code ≤ 11) → Shown w left page at (Refused code)
  repeats : (h p : ℕ) → number_at 32 page at ≡ Read h p → h ≡ 2 * (h / 2) → 0 < h / 2 → h / 2 ≤ left
      → ceil w 8 ≤ length page - p → number (take (ceil w 8) (drop p page)) < 2 ^ w
      → Shown w left page at (Repeated (h / 2) (number (take (ceil w 8) (drop p page))) (p + ceil w 8))
  packs : (h p : ℕ) → number_at 32 page at ≡ Read h p → h ≡ 2 * (h / 2) + 1 → 0 < h / 2 → 8 * (h / 2) ≤ left + 7
      → w * (h / 2) ≤ length page - p
      → Shown w left page at (Packed (h / 2) p (p + w * (h / 2)))

module _ (w left : ℕ) (page : List ℕ) (at : ℕ) where
  pub shown : Shown w left page at (run_at w left page at)
  unfolding repeated_at packed_at
  shown = go (number_at 32 page at) refl
    where
      go : (n : Number) → number_at 32 page at ≡ n → Shown w left page at (headed w left page n)
      go Ended e = refuses 5 (omega arith)
      go Beyond e = refuses 9 (omega arith)
      go (Read h p) e =
          let S : Run → Type 0 = Shown w left page at in
          either S (eqb (h / 2) 0) (λ none. refuses 10 (omega arith))
          (λ some. either S (eqb (h % 2) 0)
          (λ even. either S (ltb left (h / 2)) (λ _. refuses 11 (omega arith))
          (λ fits. either S (ltb (length page - p) (ceil w 8)) (λ _. refuses 5 (omega arith))
          (λ there. either S (ltb (number (take (ceil w 8) (drop p page))) (2 ^ w))
          (λ small. repeats h p e (omega (arith, eqb-true (h % 2) 0 even)) (omega (arith, eqb-false (h / 2) 0 some))
          (ltb-false _ _ fits) (ltb-false _ _ there) (ltb-true _ _ small))
          (λ _. refuses 8 (omega arith)))))
          (λ odd. either S (ltb (left + 7) (8 * (h / 2))) (λ _. refuses 11 (omega arith))
          (λ fits. either S (ltb (length page - p) (w * (h / 2))) (λ _. refuses 5 (omega arith))
          (λ there. packs h p e (omega (arith, eqb-false (h % 2) 0 odd)) (omega (arith, eqb-false (h / 2) 0 some))
          (ltb-false _ _ fits) (ltb-false _ _ there)))))

  -- ---- for whoever reads on

  pub ran_repeated : {count value next : ℕ} → run_at w left page at ≡ Repeated count value next
      → (0 < count) × (count ≤ left) × (value < 2 ^ w) × (at < next) × (next ≤ length page)
  ran_repeated e = go (subst (Shown w left page at) e shown)
    where
      go : {count value next : ℕ} → Shown w left page at (Repeated count value next)
          → (0 < count) × (count ≤ left) × (value < 2 ^ w) × (at < next) × (next ≤ length page)
      go (repeats h p q even some fits there small) =
          let n = next-within 32 page at h p q in
          (some, fits, small, omega arith, omega arith)

  pub ran_packed : {groups start next : ℕ} → run_at w left page at ≡ Packed groups start next
      → (0 < groups) × (8 * groups ≤ left + 7) × (next ≡ start + w * groups) × (at < start) × (next ≤ length page)
  ran_packed e = go (subst (Shown w left page at) e shown)
    where
      go : {groups start next : ℕ} → Shown w left page at (Packed groups start next)
          → (0 < groups) × (8 * groups ≤ left + 7) × (next ≡ start + w * groups) × (at < start)
          × (next ≤ length page)
      go (packs h p q odd some fits there) =
          let n = next-within 32 page at h p q in
          (some, fits, refl, n.2, omega arith)

-- by the run as it was given, in a loop over runs
module _ (w left : ℕ) (page : List ℕ) (at : ℕ) {run : Given.Run} (given : run_of (Ok run) ≡ run_at w left page at)
  where
    pub read_repeated : {count value next : ℕ} → run ≡ Found.Repeated count value next
        → (run_at w left page at ≡ Repeated count value next) × (0 < count) × (count ≤ left)
    read_repeated {count} {value} {next} is =
        let q : run_at w left page at ≡ Repeated count value next = sym given ∙ ap run_of (ap Ok is) in
        let r = ran_repeated w left page at q in
        (q, r.0, r.1)

    pub read_packed : {groups start next : ℕ} → run ≡ Found.Packed groups start next
        → (run_at w left page at ≡ Packed groups start next) × (0 < groups) × (8 * groups ≤ left + 7)
        × (start + w * groups ≤ length page)
    read_packed {groups} {start} {next} is =
        let q : run_at w left page at ≡ Packed groups start next = sym given ∙ ap run_of (ap Ok is) in
        let r = ran_packed w left page at q in
        (q, r.0, r.1, omega arith)
