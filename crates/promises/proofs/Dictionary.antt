-- Dictionary columns are a layout of signed entries, read with their dictionary, and their contracts are its. A
-- column is accepted exactly if its dictionary ascends, its index page can be cut by the published grammar and its
-- indexes are below the count; what is given is that of the values at the indexes so cut.
use Rattle.std.specs.Prelude.{◌≡◌, List, ◌↔◌, ℤ, length}
use Rattle.std.proofs.Math.Path.{subst}
use Prim.Native.Nat.{ℕ, ◌≤◌}
use Rattle.rules.specs.Bits.{ceil}
use Rattle.rules.specs.Comparison.{holds}
use Rattle.rules.specs.Answer.Outcome.{outcome}
use Rattle.rules.specs.Dictionary as Dictionary
use Rattle.rules.specs.Dictionary.{value, index_at}
use Rattle.rules.specs.declared.Answer.{Answer}
use Rattle.promises.specs.NoFault.{◌and◌}
use Rattle.promises.specs.Layouts as Layouts
use Rattle.promises.specs.Layouts.{Layout}
use Rattle.promises.specs.Signed.{signed}
use Rattle.promises.specs.Scans.{Selects}
use Rattle.promises.specs.Writes.{Fills}
use Rattle.promises.specs.DictionaryFaults.{Exact, Indexes, index_of, indexes-cut}
use Rattle.promises.proofs.DictionaryFaults.{column-exact}

abbrev pub dictionary : Layout (List ℕ) ℤ
dictionary =
    signed (λ page dict n. Dictionary.column_fault dict n page) Exact column-exact
    (λ page dict n i. value dict (index_at n page i))

-- ---- which columns are accepted, and what is then given

module _ (dict page : List ℕ) (n op : ℕ) (a b : ℤ) (before : List ℕ) {after : List ℕ} {r : Answer}
    (contract : outcome r after ≡ Dictionary.scan dict page n op a b before) where
  pub scan-accepted : r.code ≡ 0 ↔ n ≤ 16384 and op ≤ 7 and ceil n 8 ≤ length before and Exact page dict n
  unfolding Dictionary.scan
  scan-accepted = Layouts.scan-accepted dictionary page dict n op a b before contract

  -- the bitmap is that of the values at the indexes so cut
  pub scan-cut : r.code ≡ 0 → (p : Indexes page n)
      → Selects n (λ i. holds op a b (value dict (index_of p i))) before after r.number
  unfolding Dictionary.scan
  scan-cut ok p =
      subst (λ (index : ℕ → ℕ). Selects n (λ i. holds op a b (value dict (index i))) before after r.number)
      (indexes-cut p)
      ((Layouts.scan dictionary page dict n op a b before contract).accepts ok)

module _ (dict page : List ℕ) (n : ℕ) (before : List ℤ) {after : List ℤ} {r : Answer}
    (contract : outcome r after ≡ Dictionary.unpack dict page n before) where
  pub unpack-accepted : r.code ≡ 0 ↔ n ≤ 16384 and n ≤ length before and Exact page dict n
  unfolding Dictionary.unpack
  unpack-accepted = Layouts.unpack-accepted dictionary page dict n before contract

  pub unpack-cut : r.code ≡ 0 → (p : Indexes page n)
      → Fills n (λ i. value dict (index_of p i)) before after r.number
  unfolding Dictionary.unpack
  unpack-cut ok p =
      subst (λ (index : ℕ → ℕ). Fills n (λ i. value dict (index i)) before after r.number) (indexes-cut p)
      ((Layouts.unpack dictionary page dict n before contract).accepts ok)
