-- The layouts of unsigned entries of one width: at most 32 bits and 16,384 entries, each entry of a list below
-- 2^width.
use Rattle.std.specs.Prelude.{◌≡◌, List, ◌↔◌, ℕ, ◌≤◌, pos, length}
use Rattle.rules.specs.Bits.{tabulate}
use Rattle.rules.specs.Answer.{limit_fault, large_fault}
use Rattle.words.specs.Joined.{Small}
use Rattle.promises.specs.NoFault.{◌and◌, limits-kept, entries_fit}
use Rattle.promises.specs.Layouts.{Layout}
use Rattle.promises.specs.Writers.{Writer}

abbrev pub unsigned : (fault : List ℕ → ℕ → ℕ → ℕ) (Exact : List ℕ → ℕ → ℕ → Type 0)
    → ((page : List ℕ) (w n : ℕ) → fault page w n ≡ 0 ↔ Exact page w n)
    → (List ℕ → ℕ → ℕ → ℕ → ℕ)
    → Layout ℕ ℕ
unsigned fault Exact exact entry =
    record {
      limits = limit_fault;
      Kept = λ w n. w ≤ 32 and n ≤ 16384;
      kept = limits-kept;
      fault = fault;
      Exact = Exact;
      exact = exact;
      entry = entry;
      whole = pos;
    }

-- and a writer of such entries
module _ (fault : List ℕ → ℕ → ℕ → ℕ) (Exact : List ℕ → ℕ → ℕ → Type 0)
    (exact : (page : List ℕ) (w n : ℕ) → fault page w n ≡ 0 ↔ Exact page w n)
    (entry : List ℕ → ℕ → ℕ → ℕ → ℕ) where
  abbrev pub unsigned-writer : (packed : ℕ → List ℕ → List ℕ) (places : ℕ → List ℕ → ℕ)
      → ((w : ℕ) (xs : List ℕ) → length (packed w xs) ≡ places w xs)
      → ((w : ℕ) (xs : List ℕ) → length xs ≤ 16384 → Small w xs → Exact (packed w xs) w (length xs))
      → ((w : ℕ) (xs : List ℕ) → length xs ≤ 16384 → Small w xs
      → tabulate (length xs) (entry (packed w xs) w (length xs)) ≡ xs)
      → Writer (unsigned fault Exact exact entry)
  unsigned-writer packed places length-packed packed-exact packed-entries =
      record {
        unfit = large_fault;
        Fit = Small;
        fit = entries_fit;
        packed = packed;
        places = places;
        length-packed = length-packed;
        Held = λ xs. Unit {0};
        packed-exact = λ w xs kept small held. packed-exact w xs kept.1 small;
        packed-entries = λ w xs kept small held. packed-entries w xs kept.1 small;
      }
