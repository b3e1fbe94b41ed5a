-- What scan and unpack promise of every layout, said once: a layout is its limits, its page's fault and its entries.
use Rattle.std.specs.Prelude.{◌≡◌, List, ◌↔◌, ℕ, ◌≤◌, ℤ, length}
use Rattle.rules.specs.Bits.{ceil, tabulate}
use Rattle.rules.specs.Comparison.{holds}
use Rattle.rules.specs.Answer.{◌then◌, operator_fault, room_fault, Outcome, scanned, written}
use Rattle.rules.specs.Answer.Outcome.{outcome}
use Rattle.rules.specs.declared.Answer.{Answer}
use Rattle.promises.specs.NoFault.{◌and◌, scan_good, unpack-good}
use Rattle.promises.specs.Promise.{Promise, accepted_where}
use Rattle.promises.specs.Scans.{Selects, scan-promise}
use Rattle.promises.specs.Writes.{Fills, fill_promise}

-- of entries A; K is what a page needs besides n to be read: a width, or nothing, or a dictionary
pub record Layout (K A : Type 0) : Type 1 where
  -- the fault of the arguments, and in plain conditions when there is none
  pub limits : K → ℕ → ℕ
  pub Kept : K → ℕ → Type 0
  pub kept : (k : K) (n : ℕ) → limits k n ≡ 0 ↔ Kept k n
  -- the fault of a page of n entries, and when there is none
  pub fault : List ℕ → K → ℕ → ℕ
  pub Exact : List ℕ → K → ℕ → Type 0
  pub exact : (page : List ℕ) (k : K) (n : ℕ) → fault page k n ≡ 0 ↔ Exact page k n
  -- entry i of such a page, and an entry as a whole number
  pub entry : List ℕ → K → ℕ → ℕ → A
  pub whole : A → ℤ

module _ {K A : Type 0} (L : Layout K A) where
  -- the contracts of its scan and its unpack
  abbrev pub scans : List ℕ → K → ℕ → ℕ → ℤ → ℤ → List ℕ → Outcome ℕ
  scans page k n op a b before =
      scanned
      (L.limits k n then operator_fault op then room_fault (length before) (ceil n 8) then L.fault page k n)
      n (λ i. holds op a b (L.whole (L.entry page k n i))) before

  abbrev pub unpacks : List ℕ → K → ℕ → List A → Outcome A
  unpacks page k n before =
      written (L.limits k n then room_fault (length before) n then L.fault page k n)
      (tabulate n (L.entry page k n)) before

  module _ (page : List ℕ) (k : K) (n op : ℕ) (a b : ℤ) (before : List ℕ) {after : List ℕ} {r : Answer}
      (contract : outcome r after ≡ scans page k n op a b before) where
    -- scan: the limits', 3, 4, then the page's; an entry is selected exactly when the comparison holds of it, as a
    -- whole number
    pub scan : Promise
        (L.limits k n then operator_fault op then room_fault (length before) (ceil n 8) then L.fault page k n)
        before after r
        (Selects n (λ i. holds op a b (L.whole (L.entry page k n i))) before after r.number)
    scan = scan-promise _ n _ before contract

    -- a scanner that refuses everything breaks its contract: these scans are accepted, and no others
    pub scan-accepted : r.code ≡ 0 ↔ L.Kept k n and op ≤ 7 and ceil n 8 ≤ length before and L.Exact page k n
    scan-accepted = accepted_where scan (scan_good _ _ (L.kept k n) (L.exact page k n) n (length before) op)

  module _ (page : List ℕ) (k : K) (n : ℕ) (before : List A) {after : List A} {r : Answer}
      (contract : outcome r after ≡ unpacks page k n before) where
    -- unpack: the limits', 4, then the page's; the number is n, with entry i in place i
    pub unpack : Promise
        (L.limits k n then room_fault (length before) n then L.fault page k n)
        before after r
        (Fills n (L.entry page k n) before after r.number)
    unpack = fill_promise _ n _ before contract

    -- these pages are unpacked, and no others
    pub unpack-accepted : r.code ≡ 0 ↔ L.Kept k n and n ≤ length before and L.Exact page k n
    unpack-accepted = accepted_where unpack (unpack-good _ _ (L.kept k n) (L.exact page k n) n (length before))
