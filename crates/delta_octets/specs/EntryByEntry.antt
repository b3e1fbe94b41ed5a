-- Entries passed one after another: each written, and the next reached. What writing leaves is given as a function,
-- so the laws hold for bitmaps and places alike.
use Rattle.std.specs.Prelude.{◌≡◌, ℕ, ◌+◌, ◌-◌, ◌%◌, ◌^◌, ◌<◌, ◌≤◌, min, refl}
use Rattle.std.proofs.Common.{ap, ◌∙◌, arith}
use Rattle.signed.specs.Reached.{reached, reached_add, reached-ext}

-- `write i k value out` is what k values leave of `out`, written as the entries i, i + 1, ..
module _ {O : Type 0} (write : ℕ → ℕ → (ℕ → ℕ) → O → O) where
  -- from x₀ on, by the steps d, k entries were written as those from i on; x is the one after them
  pub record Passed (W x₀ : ℕ) (d : ℕ → ℕ) (i : ℕ) (out₀ : O) (k x : ℕ) (out : O) : Type 0 where
    pub entry : x ≡ reached W x₀ d k
    pub wrote : out ≡ write i k (reached W x₀ d) out₀

  -- writing nothing changes nothing
  abbrev pub Starts : ℕ → O → Type 0
  Starts i out₀ = (f : ℕ → ℕ) → out₀ ≡ write i 0 f out₀

  -- the first `size` entries may be written part after part, if every part but the last is of whole bytes
  abbrev pub Grows : ℕ → ℕ → O → Type 0
  Grows i size out₀ =
      (k m : ℕ) (f g : ℕ → ℕ) → k % 8 ≡ 0 → k + m ≤ size → ((j : ℕ) → j < m → g j ≡ f (k + j))
      → write (i + k) m g (write i k f out₀) ≡ write i (k + m) f out₀

  module _ (W x₀ : ℕ) (d : ℕ → ℕ) (i : ℕ) (out₀ : O) where
    pub passed_none : Starts i out₀ → Passed W x₀ d i out₀ 0 x₀ out₀
    unfolding reached
    passed_none starts = record { entry = refl; wrote = starts (reached W x₀ d) }

    -- k entries, and then m more by steps that are the same modulo 2^W
    pub passed-more : (size k m x x' : ℕ) (out out' : O) (e : ℕ → ℕ) → Grows i size out₀ → k % 8 ≡ 0 → k + m ≤ size
        → ((j : ℕ) → j < m → e j % 2 ^ W ≡ d (k + j) % 2 ^ W) → Passed W x₀ d i out₀ k x out
        → Passed W x e (i + k) out m x' out'
        → Passed W x₀ d i out₀ (k + m) x' out'
    passed-more size k m x x' out out' e grows whole fits same p q =
        let on : (j : ℕ) → j ≤ m → reached W x e j ≡ reached W x₀ d (k + j) =
        λ j h. reached-ext W x e (λ a. d (k + a)) m j same h ∙ rw p.entry (reached_add W x₀ d k j) in
        record {
          entry = q.entry ∙ on m (omega arith);
          wrote =
              q.wrote ∙ ap (write (i + k) m (reached W x e)) p.wrote
              ∙ grows k m (reached W x₀ d) (reached W x e) whole fits (λ j h. on j (omega arith));
        }

    -- eight more of k entries, or those that are left of them
    pub passed_eight : (k j x x' : ℕ) (out out' : O) → Grows i k out₀ → j % 8 ≡ 0 → j < k
        → Passed W x₀ d i out₀ (min j k) x out
        → Passed W x (λ u. d (j + u)) (i + j) out (min 8 (k - j)) x' out'
        → Passed W x₀ d i out₀ (min (j + 8) k) x' out'
    passed_eight k j x x' out out' grows whole more p q =
        let here : min j k ≡ j = omega arith in
        let then : j + min 8 (k - j) ≡ min (j + 8) k = omega arith in
        rw
        then at
        (passed-more k j (min 8 (k - j)) x x' out out' (λ u. d (j + u)) grows whole (omega arith) (λ u l. refl)
        (rw here at p) q)

    -- the same entries by other steps
    pub passed-same : (k x' : ℕ) (out' : O) (e : ℕ → ℕ) → Starts i out₀ → Grows i k out₀ → ((j : ℕ) → e j ≡ d j)
        → Passed W x₀ e i out₀ k x' out'
        → Passed W x₀ d i out₀ k x' out'
    passed-same k x' out' e starts grows same p =
        let none : i + 0 ≡ i = omega arith in
        let all : 0 + k ≡ k = omega arith in
        rw all at
        (passed-more k 0 k x₀ x' out₀ out' e grows (omega arith) (omega arith)
        (λ j l. ap (λ (y : ℕ). y % 2 ^ W) (same j ∙ ap d (omega arith))) (passed_none starts) (rw none p))
