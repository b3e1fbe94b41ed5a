-- What pack promises of every layout that has a writer, said once: what was packed is read back.
use Rattle.std.specs.Prelude.{◌≡◌, List, ◌↔◌, ℕ, ◌≤◌, ℤ, length, take, get_or}
use Rattle.std.proofs.Common.{sym, ap, ◌∙◌}
use Rattle.rules.specs.Bits.{ceil, tabulate, put}
use Rattle.rules.specs.Comparison.{holds}
use Rattle.rules.specs.Answer.{◌then◌, operator_fault, room_fault, Outcome, accepted, scanned, written}
use Rattle.rules.specs.Answer.Outcome.{outcome}
use Rattle.rules.specs.declared.Answer.{Answer}
use Rattle.answers.specs.Laws.{then_none, then_last}
use Rattle.bitmaps.specs.ScanEnds.{scanned-ext}
use Rattle.words.specs.Tabulated.{get_or-tabulate}
use Rattle.promises.specs.NoFault.{◌and◌, unpack-good, pack-good}
use Rattle.promises.specs.Promise.{Promise, accepted_where}
use Rattle.promises.specs.Layouts.{Layout, scans, unpacks}
use Rattle.promises.specs.Writes.{Writes, write_promise, written-accepted}

pub record Writer {K A : Type 0} (L : Layout K A) : Type 1 where
  -- the fault of a list of entries, and in plain conditions when there is none
  pub unfit : K → List A → ℕ
  pub Fit : K → List A → Type 0
  pub fit : (k : K) (xs : List A) → unfit k xs ≡ 0 ↔ Fit k xs
  -- the page that entries make, and how many places it has
  pub packed : K → List A → List ℕ
  pub places : K → List A → ℕ
  pub length-packed : (k : K) (xs : List A) → length (packed k xs) ≡ places k xs
  -- of entries that the lent list can hold (numbers of its places' bits) it has no fault, and they are read back
  pub Held : List A → Type 0
  pub packed-exact : (k : K) (xs : List A) → L.Kept k (length xs) → Fit k xs → Held xs
      → L.Exact (packed k xs) k (length xs)
  pub packed-entries : (k : K) (xs : List A) → L.Kept k (length xs) → Fit k xs → Held xs
      → tabulate (length xs) (L.entry (packed k xs) k (length xs)) ≡ xs

module _ {K A : Type 0} (L : Layout K A) (W : Writer L) where
  -- the contract of its pack
  abbrev pub packs : List A → K → List ℕ → Outcome ℕ
  packs entries k before =
      written
      (L.limits k (length entries) then W.unfit k entries
      then room_fault (length before) (W.places k entries)) (W.packed k entries) before

  module _ (xs : List A) (k : K) (before : List ℕ) {after : List ℕ} {r : Answer}
      (contract : outcome r after ≡ packs xs k before) where
    -- pack: the limits', the entries', 4; the number is the length of the page that the entries make, which stands
    -- in the first places
    pub pack : Promise
        (L.limits k (length xs) then W.unfit k xs then room_fault (length before) (W.places k xs))
        before after r
        (Writes (W.packed k xs) before after r.number)
    pack = write_promise _ (W.packed k xs) before contract

    -- these lists are packed, and no others
    pub pack-accepted : r.code ≡ 0 ↔ L.Kept k (length xs) and W.Fit k xs and W.places k xs ≤ length before
    pack-accepted = accepted_where pack (pack-good _ _ (L.kept k (length xs)) (W.fit k xs) (length before) _)

    -- of the lent places those that were written are the page that the entries make
    page_is : r.code ≡ 0 → take r.number after ≡ W.packed k xs
    page_is ok =
        let wrote = pack.accepts ok in
        ap (λ (m : ℕ). take m after) wrote.number_is ∙ wrote.wrote_is

    -- it unpacks to the entries, in any places that have room
    pub packed-unpacks : r.code ≡ 0 → W.Held xs → (before : List A) → length xs ≤ length before
        → unpacks L (take r.number after) k (length xs) before ≡ outcome (accepted (length xs)) (put before 0 xs)
    packed-unpacks ok held before room =
        let n : ℕ = length xs in
        let good = pack-accepted.0 ok in
        let page : List ℕ = W.packed k xs in
        rw (page_is ok)
        (written-accepted _ _ xs before
        ((unpack-good _ _ (L.kept k n) (L.exact page k n) n (length before)).1
        (good.0, (room, W.packed-exact k xs good.0 good.1.0 held)))
        (W.packed-entries k xs good.0 good.1.0 held))

    -- and a scan of it compares the entries: nothing but an unknown operator or a bitmap too short is refused
    pub packed-scans : r.code ≡ 0 → W.Held xs → (op : ℕ) (a b : ℤ) (d : A) (bitmap : List ℕ)
        → scans L (take r.number after) k (length xs) op a b bitmap
        ≡ scanned (operator_fault op then room_fault (length bitmap) (ceil (length xs) 8)) (length xs)
        (λ i. holds op a b (L.whole (get_or xs i d))) bitmap
    packed-scans ok held op a b d bitmap =
        let n : ℕ = length xs in
        let good = pack-accepted.0 ok in
        let page : List ℕ = W.packed k xs in
        let f : ℕ → A = L.entry page k n in
        let read : tabulate n f ≡ xs = W.packed-entries k xs good.0 good.1.0 held in
        let none : L.fault page k n ≡ 0 = (L.exact page k n).1 (W.packed-exact k xs good.0 good.1.0 held) in
        rw (page_is ok, then_none _ _ ((L.kept k n).1 good.0), then_last _ _ none)
        (scanned-ext _ n _ _ bitmap
        (λ i h. ap (λ (x : A). holds op a b (L.whole x))
        (sym (get_or-tabulate n f i d h) ∙ ap (λ (l : List A). get_or l i d) read)))
