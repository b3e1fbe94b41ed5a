-- The laws of `least_below`: the least number below n that passes, or n if none does.
use Rattle.std.specs.Prelude.{◌≡◌, refl, Bool, true, false, cond, ℕ, zero, suc, ◌≤◌, ◌<◌, ltb}
use Rattle.std.proofs.Common.{sym, ap, ◌∙◌, not-suc-le-zero, arith, ltb-true, ltb-false}
use Rattle.rules.specs.Bits.{least_below}

-- one that passes, and none before it
pub least-found : (n : ℕ) (test : ℕ → Bool) (i : ℕ) → i < n → ((k : ℕ) → k < i → test k ≡ false)
    → test i ≡ true → least_below n test ≡ i
unfolding least_below
least-found zero test i h before found = absurd (not-suc-le-zero h)
least-found (suc n) test zero h before found = rw found
least-found (suc n) test (suc i) h before found =
    rw (before 0 (omega arith))
    (ap suc (least-found n (λ k. test (suc k)) i (omega arith) (λ k l. before (suc k) (omega arith)) found))

pub least-none : (n : ℕ) (test : ℕ → Bool) → ((k : ℕ) → k < n → test k ≡ false) → least_below n test ≡ n
unfolding least_below
least-none zero test none = refl
least-none (suc n) test none =
    rw (none 0 (omega arith)) (ap suc (least-none n (λ k. test (suc k)) (λ k l. none (suc k) (omega arith))))

-- nothing below it passes, and it does where it is below n
pub record Least (n : ℕ) (test : ℕ → Bool) (k : ℕ) : Type 0 where
  pub few : k ≤ n
  pub before : (i : ℕ) → i < k → test i ≡ false
  pub passes : k < n → test k ≡ true

pub least_is : (n : ℕ) (test : ℕ → Bool) → Least n test (least_below n test)
unfolding least_below
least_is zero test =
    record {
      few = omega arith;
      before = λ i h. absurd (not-suc-le-zero h);
      passes = λ h. absurd (not-suc-le-zero h);
    }
least_is (suc n) test = go (test zero) refl (least_is n (λ k. test (suc k)))
  where
    rest : ℕ
    rest = least_below n (λ k. test (suc k))

    later : test zero ≡ false → Least n (λ k. test (suc k)) rest → (i : ℕ) → i < suc rest → test i ≡ false
    later e l zero h = e
    later e l (suc i) h = l.before i (omega arith)

    go : (t : Bool) → test zero ≡ t → Least n (λ k. test (suc k)) rest
        → Least (suc n) test (cond t 0 (suc rest))
    go true e l = record { few = omega arith; before = λ i h. absurd (not-suc-le-zero h); passes = λ h. e }
    go false e l =
        let few : rest ≤ n = l.few in
        record { few = omega arith; before = later e l; passes = λ h. l.passes (omega arith) }

-- tests that agree up to the least number that passes the first have the same
pub least-alike : (n : ℕ) (f g : ℕ → Bool) → ((i : ℕ) → i < n → i ≤ least_below n f → f i ≡ g i)
    → least_below n g ≡ least_below n f
least-alike n f g same = go (ltb k n) refl
  where
    k : ℕ
    k = least_below n f

    l : Least n f k
    l = least_is n f

    few : k ≤ n
    few = l.few

    before : (i : ℕ) → i < k → g i ≡ false
    before i m = sym (same i (omega (arith, few)) (omega arith)) ∙ l.before i m

    go : (t : Bool) → ltb k n ≡ t → least_below n g ≡ k
    go true e =
        let h : k < n = ltb-true k n e in
        least-found n g k h before (sym (same k h (omega arith)) ∙ l.passes h)
    go false e =
        let all : k ≡ n = omega (arith, ltb-false k n e, few) in
        least-none n g (λ i m. before i (omega arith)) ∙ sym all
