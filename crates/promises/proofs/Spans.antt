-- What the two operations of spans promise: what they are kept to, and that they undo each other.
use Rattle.std.specs.Prelude.{◌≡◌, refl, Bool, true, false, List, ◌↔◌, ℕ, ◌*◌, ◌/◌, ◌%◌, ◌≤◌, ◌<◌, length, take}
use Rattle.std.proofs.Common.{sym, ap, ◌∙◌, true≢false, arith, lt-ltb}
use Rattle.rules.specs.Bits.{ceil, put}
use Rattle.rules.specs.Bitmap.{bitmap}
use Rattle.rules.specs.Answer.{faulty, accepted}
use Rattle.rules.specs.Answer.Outcome.{outcome}
use Rattle.rules.specs.Spans.{selected, spans, from_bitmap, covered, misplaced, to_bitmap}
use Rattle.rules.specs.declared.Answer.{Answer}
use Rattle.words.specs.Joined.{Small}
use Rattle.answers.specs.Laws.{then_none}
use Rattle.bitmaps.specs.Counts.{count_ones}
use Rattle.bitmaps.specs.Bitmaps.{length-bitmap, bitmap-ext, bit-bitmap, count-bitmap, take-bitmap}
use Rattle.spans_list.specs.Turns.{spans-even}
use Rattle.spans_list.specs.SetBits.{one-flag}
use Rattle.promises.specs.NoFault.{count_kept, room-enough}
use Rattle.promises.specs.Promise.{Promise, promise, accepted_where}
use Rattle.promises.specs.Scans.{scan-promise}
use Rattle.promises.specs.Writes.{Writes, writes, answered-accepted}
use Rattle.promises.specs.Pairs.{Ascends, covered-exact}
use Rattle.promises.proofs.Pairs.{placed-exact}
use Rattle.promises.specs.SpansFaults.{even-exact, from_good}
use Rattle.promises.proofs.SpansFaults.{to_good}
use Rattle.promises.specs.Stretches.{spans-placed, spans_cover, spans-back}
use Rattle.promises.proofs.Stretches.{spans_stretches}
use Rattle.promises.specs.Conditions.{SpansFromBitmap, SpansToBitmap}
use Rattle.promises.specs.Keeping.{keeping, giving, room-kept}
use Rattle.promises.specs.Spans.{UnusedClear, bitmap_again}

pub from_keeps : (bits : List ℕ) (n : ℕ) (before : List ℕ) {after : List ℕ} {r : Answer}
    → outcome r after ≡ from_bitmap bits n before → SpansFromBitmap bits n before after r
unfolding from_bitmap
from_keeps bits n before {after} {r} contract =
    let good = from_good bits n (length before) in
    let kept : Promise _ before after r (Writes (spans bits n) before after (2 * r.number)) =
    promise _ _ (spans bits n) before
    (λ number. writes (spans bits n) before (omega (arith, spans-even bits n))) contract in
    giving
    (keeping kept (accepted_where kept good)
    (room-kept _ _ (spans bits n) before (λ none. (good.0 none).1.1) contract))
    (λ ok. (spans_stretches bits n, kept.accepts ok))

pub to_keeps : (list : List ℕ) (n : ℕ) (before : List ℕ) {after : List ℕ} {r : Answer}
    → outcome r after ≡ to_bitmap list n before → SpansToBitmap list n before after r
unfolding to_bitmap
to_keeps list n before contract =
    let good = to_good list n (length before) in
    let kept = scan-promise _ n (covered list) before contract in
    giving
    (keeping kept (accepted_where kept good)
    (room-kept _ _ (bitmap n (covered list)) before
    (λ none. rw (length-bitmap n (covered list)) (good.0 none).1.1.0) contract))
    (λ ok. (covered-exact list, kept.accepts ok))

-- where nothing else is wrong, 18 is given just where the list does not ascend
pub ascends_or_18 : (list : List ℕ) (n : ℕ) (before : List ℕ) {after : List ℕ} {r : Answer}
    → outcome r after ≡ to_bitmap list n before
    → n ≤ 16384 → length list % 2 ≡ 0 → ceil n 8 ≤ length before → r.code ≡ 18 ↔ (Ascends n list → ⊥)
ascends_or_18 list n before {r = r} contract few even room =
    let fault-is : r.code ≡ faulty (misplaced n 0 list) 18 =
    (to_keeps list n before contract).code_is
    ∙ then_none _ _ ((count_kept n).1 few) ∙ then_none _ _ ((even-exact list).1 even)
    ∙ then_none _ _ ((room-enough (length before) (ceil n 8)).1 room) in
    go (misplaced n 0 list) refl fault-is
  where
    go : (t : Bool) → misplaced n 0 list ≡ t → r.code ≡ faulty t 18 → r.code ≡ 18 ↔ (Ascends n list → ⊥)
    go true e code = (λ _ a. true≢false (sym e ∙ (placed-exact n list).1 a), λ _. code)
    go false e code = (λ h. absurd (omega arith), λ no. absurd (no ((placed-exact n list).0 e)))

-- from bitmap to list and back: the bytes that n reaches, where their unused bits are 0
pub bitmap-back : (bits : List ℕ) (n : ℕ) (before : List ℕ) {after : List ℕ} {r : Answer}
    → outcome r after ≡ from_bitmap bits n before → r.code ≡ 0 → Small 8 bits → UnusedClear n bits
    → (out : List ℕ) → ceil n 8 ≤ length out
    → to_bitmap (take (2 * r.number) after) n out
    ≡ outcome (accepted (count_ones (take (ceil n 8) bits))) (put out 0 (take (ceil n 8) bits))
unfolding to_bitmap
bitmap-back bits n before {after} {r} contract ok small clear out room =
    let keeps = from_keeps bits n before contract in
    let good = keeps.accepted.0 ok in
    let wrote = (keeps.gives ok).1 in
    let list-is : take (2 * r.number) after ≡ spans bits n =
    ap (λ (k : ℕ). take k after) wrote.number_is ∙ wrote.wrote_is in
    let bytes-are : bitmap n (covered (spans bits n)) ≡ take (ceil n 8) bits =
    bitmap-ext n (spans_cover bits n) ∙ bitmap_again bits n good.1.0 small clear in
    rw list-is
    (answered-accepted _ _ _ _ _ out
    ((to_good (spans bits n) n (length out)).1
    (good.0, (spans-even bits n, (room, (placed-exact n (spans bits n)).0 (spans-placed bits n)))))
    (sym (count-bitmap n (covered (spans bits n))) ∙ ap count_ones bytes-are)
    bytes-are)

-- the bits of a bitmap are its tests
selected-bitmap : (n : ℕ) (f : ℕ → Bool) (i : ℕ) → i < n → selected (bitmap n f) n i ≡ f i
unfolding selected
selected-bitmap n f i h = rw (lt-ltb i n h, bit-bitmap n f i h) (one-flag (f i))

-- from an accepted list to bitmap and back: the list
pub list_back : (list : List ℕ) (n : ℕ) (before : List ℕ) {after : List ℕ} {r : Answer}
    → outcome r after ≡ to_bitmap list n before → r.code ≡ 0
    → (places : List ℕ) → length list ≤ length places
    → from_bitmap (take (ceil n 8) after) n places ≡ outcome (accepted (length list / 2)) (put places 0 list)
unfolding from_bitmap to_bitmap
list_back list n before {after} {r} contract ok places room =
    let good = (to_keeps list n before contract).accepted.0 ok in
    let bits : List ℕ = bitmap n (covered list) in
    let bitmap-is : take (ceil n 8) after ≡ bits =
    (promise _ _ bits before (λ _ e. ap (take (ceil n 8)) e ∙ take-bitmap before n (covered list)) contract
    ).accepts ok in
    let back : spans bits n ≡ list =
    spans-back bits n list ((placed-exact n list).1 good.1.1.1) good.1.0 (selected-bitmap n (covered list)) in
    rw bitmap-is
    (answered-accepted _ _ _ _ _ places
    ((from_good bits n (length places)).1
    (good.0, (omega (arith, length-bitmap n (covered list)), omega (arith, ap length back))))
    (ap (λ (l : List ℕ). length l / 2) back) back)
