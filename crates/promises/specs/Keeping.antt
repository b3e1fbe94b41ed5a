-- What a layout's contracts are kept to (Keeps, in Conditions), said once over the layout.
use Rattle.std.specs.Prelude.{◌≡◌, refl, Bool, List, ◌↔◌, ℕ, zero, suc, ◌≤◌, ℤ, length}
use Rattle.std.proofs.Common.{ap, ◌∙◌, arith}
use Rattle.rules.specs.Bits.{ceil, put, tabulate}
use Rattle.rules.specs.Bitmap.{bitmap, tally}
use Rattle.rules.specs.Comparison.{holds}
use Rattle.rules.specs.Answer.{◌then◌, operator_fault, room_fault, answered}
use Rattle.rules.specs.Answer.Outcome.{outcome}
use Rattle.rules.specs.declared.Answer.{Answer}
use Rattle.words.specs.Puts.{length-put}
use Rattle.words.specs.Tabulated.{length-tabulate}
use Rattle.bitmaps.specs.Bitmaps.{length-bitmap}
use Rattle.promises.specs.NoFault.{◌and◌, scan_good, unpack-good, pack-good}
use Rattle.promises.specs.Promise.{Promise}
use Rattle.promises.specs.Scans.{Selects}
use Rattle.promises.specs.Writes.{Fills, Writes}
use Rattle.promises.specs.Layouts as Layouts
use Rattle.promises.specs.Layouts.{Layout, scans, unpacks}
use Rattle.promises.specs.Writers as Writers
use Rattle.promises.specs.Writers.{Writer, packs}
use Rattle.promises.specs.Conditions.{Keeps}

-- no place is gained or lost, since what is written has room
pub room-kept : {A : Type 0} (fault n : ℕ) (wrote before : List A) {after : List A} {r : Answer}
    → (fault ≡ 0 → length wrote ≤ length before) → outcome r after ≡ answered fault n wrote before
    → length after ≡ length before
unfolding answered
room-kept zero n wrote before {after} fits contract =
    let e : after ≡ put before 0 wrote = cc in
    let room : length wrote ≤ length before = fits refl in
    ap length e ∙ length-put before 0 wrote (omega arith)
room-kept (suc fault) n wrote before {after} fits contract = let e : after ≡ before = cc in ap length e

-- from the promise of an answer
pub keeping : {A : Type 0} {fault : ℕ} {before after : List A} {r : Answer} {Good Gives : Type 0}
    → Promise fault before after r Gives → (r.code ≡ 0 ↔ Good) → length after ≡ length before
    → Keeps fault Good Gives before after r
keeping p good room =
    record { code_is = p.code_is; accepted = good; refused = p.refused; gives = p.accepts; same-room = room }

-- the same, where more is known of what is given
pub giving : {A : Type 0} {fault : ℕ} {before after : List A} {r : Answer} {Good Less More : Type 0}
    → Keeps fault Good Less before after r → (r.code ≡ 0 → More) → Keeps fault Good More before after r
giving k more =
    record {
      code_is = k.code_is;
      accepted = k.accepted;
      refused = k.refused;
      gives = more;
      same-room = k.same-room;
    }

module _ {K A : Type 0} (L : Layout K A) where
  pub scan_keeps : (page : List ℕ) (k : K) (n op : ℕ) (a b : ℤ) (before : List ℕ) {after : List ℕ} {r : Answer}
      → outcome r after ≡ scans L page k n op a b before
      → Keeps
      (L.limits k n then operator_fault op then room_fault (length before) (ceil n 8) then L.fault page k n)
      (L.Kept k n and op ≤ 7 and ceil n 8 ≤ length before and L.Exact page k n)
      (Selects n (λ i. holds op a b (L.whole (L.entry page k n i))) before after r.number)
      before after r
  scan_keeps page k n op a b before contract =
      let test : ℕ → Bool = λ i. holds op a b (L.whole (L.entry page k n i)) in
      keeping (Layouts.scan L page k n op a b before contract)
      (Layouts.scan-accepted L page k n op a b before contract)
      (room-kept _ (tally n test) (bitmap n test) before
      (λ none. rw (length-bitmap n test)
      ((scan_good _ _ (L.kept k n) (L.exact page k n) n (length before) op).0 none).1.1.0)
      contract)

  pub unpack_keeps : (page : List ℕ) (k : K) (n : ℕ) (before : List A) {after : List A} {r : Answer}
      → outcome r after ≡ unpacks L page k n before
      → Keeps
      (L.limits k n then room_fault (length before) n then L.fault page k n)
      (L.Kept k n and n ≤ length before and L.Exact page k n)
      (Fills n (L.entry page k n) before after r.number)
      before after r
  unpack_keeps page k n before contract =
      let places : List A = tabulate n (L.entry page k n) in
      keeping (Layouts.unpack L page k n before contract) (Layouts.unpack-accepted L page k n before contract)
      (room-kept _ (length places) places before
      (λ none. rw (length-tabulate n (L.entry page k n))
      ((unpack-good _ _ (L.kept k n) (L.exact page k n) n (length before)).0 none).1.0)
      contract)

  pub pack_keeps : (W : Writer L) (xs : List A) (k : K) (before : List ℕ) {after : List ℕ} {r : Answer}
      → outcome r after ≡ packs L W xs k before
      → Keeps
      (L.limits k (length xs) then W.unfit k xs then room_fault (length before) (W.places k xs))
      (L.Kept k (length xs) and W.Fit k xs and W.places k xs ≤ length before)
      (Writes (W.packed k xs) before after r.number)
      before after r
  pack_keeps W xs k before contract =
      keeping (Writers.pack L W xs k before contract) (Writers.pack-accepted L W xs k before contract)
      (room-kept _ (length (W.packed k xs)) (W.packed k xs) before
      (λ none. rw (W.length-packed k xs)
      ((pack-good _ _ (L.kept k (length xs)) (W.fit k xs) (length before) _).0 none).1.1)
      contract)
