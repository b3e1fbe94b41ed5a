-- The layouts of signed entries: at most 16,384 entries.
use Rattle.std.specs.Prelude.{◌≡◌, List, ◌↔◌, ℕ, ◌≤◌, ℤ}
use Rattle.rules.specs.Answer.{count_fault}
use Rattle.promises.specs.NoFault.{count_kept}
use Rattle.promises.specs.Layouts.{Layout}

abbrev pub signed : {K : Type 0} (fault : List ℕ → K → ℕ → ℕ) (Exact : List ℕ → K → ℕ → Type 0)
    → ((page : List ℕ) (k : K) (n : ℕ) → fault page k n ≡ 0 ↔ Exact page k n)
    → (List ℕ → K → ℕ → ℕ → ℤ)
    → Layout K ℤ
signed fault Exact exact entry =
    record {
      limits = λ k n. count_fault n;
      Kept = λ k n. n ≤ 16384;
      kept = λ k n. count_kept n;
      fault = fault;
      Exact = Exact;
      exact = exact;
      entry = entry;
      whole = λ z. z;
    }
