-- The room that a C function gives is enough: any list within the limits is packed there, and any bitmap's spans are
-- written (proofs/Rooms); a bare page fills it. Of two calls: the second (a', e') is asked for the room of the first one's width and
-- count.
use Rattle.std.specs.Prelude.{◌≡◌, Bool, List, ℕ, ◌≤◌, length}
use Rattle.std.proofs.Common.{sym, ◌∙◌, le_trans, arith}
use Rattle.rules.specs.Answer.{count_fault, limit_fault}
use Rattle.rules.specs.Answer.Outcome.{outcome}
use Rattle.rules.specs.Bitmap.{bitmap}
use Rattle.rules.specs.Horizontal as Horizontal
use Rattle.rules.specs.Vertical as Vertical
use Rattle.rules.specs.RunWriter as RunWriter
use Rattle.rules.specs.DeltaWriter as DeltaWriter
use Rattle.rules.specs.declared.Answer.{Answer}
use Rattle.words.specs.Joined.{Small}
use Rattle.bitmaps.specs.Bitmaps.{length-bitmap}
use Rattle.runs_write.specs.Sizes as Runs
use Rattle.runs_write.specs.Sizes.{stream-enough}
use Rattle.delta_write.specs.Deltas.{AllWithin}
use Rattle.delta_write.specs.Sizes as Delta
use Rattle.delta_write.specs.Sizes.{page-enough}
use Rattle.cahermisk.specs.Rooms.{unless, within}
use Rattle.promises.specs.NoFault.{count_kept, limits-kept}
use Rattle.promises.specs.Layouts.{Layout}
use Rattle.promises.specs.Writers.{Writer, packs, pack, pack-accepted}
use Rattle.promises.specs.Horizontal as Horizontals
use Rattle.promises.specs.Horizontal.{horizontal}
use Rattle.promises.specs.Vertical as Verticals
use Rattle.promises.specs.Vertical.{vertical}
use Rattle.promises.specs.Runs as Streams
use Rattle.promises.specs.Runs.{runs}
use Rattle.promises.specs.Delta as Deltas
use Rattle.promises.specs.Delta.{delta}
use Rattle.promises.specs.Calls.{EveryHorizontalPack, EveryVerticalPack, EveryRunsPack, EveryDeltaPack}
use Rattle.promises.specs.Calls.{EveryBitmapBytes, EveryHorizontalBytes, EveryVerticalWords, EveryRunsBytes}
use Rattle.promises.specs.Calls.{EveryDeltaBytes}

-- in room for its page a list is packed, and the number is the page's length
fits_in : {K A : Type 0} (L : Layout K A) (W : Writer L) (xs : List A) (k : K) (before : List ℕ) {after : List ℕ}
    {r : Answer} → outcome r after ≡ packs L W xs k before
    → L.Kept k (length xs) → W.Fit k xs → W.places k xs ≤ length before
    → (r.code ≡ 0) × (r.number ≡ W.places k xs)
fits_in L W xs k before contract kept fit room =
    let ok = (pack-accepted L W xs k before contract).1 (kept, (fit, room)) in
    (ok, ((pack L W xs k before contract).accepts ok).number_is ∙ W.length-packed k xs)

-- where the room is the page's length, the list fills it
fills : {K A : Type 0} (L : Layout K A) (W : Writer L) (xs : List A) (k : K) (before : List ℕ) {after : List ℕ}
    {r : Answer} {room : ℕ} → outcome r after ≡ packs L W xs k before
    → L.Kept k (length xs) → W.Fit k xs → room ≡ W.places k xs → room ≤ length before
    → (r.code ≡ 0) × (r.number ≡ room)
fills L W xs k before contract kept fit size lent =
    let packed = fits_in L W xs k before contract kept fit (rw size at lent) in (packed.0, packed.1 ∙ sym size)

-- what is asked for of a column within its limits
unsigned-room : (w n places : ℕ) → w ≤ 32 → n ≤ 16384 → unless (limit_fault w n) places ≡ places
unsigned-room w n places narrow few = within (limit_fault w n) places ((limits-kept w n).1 (narrow, few))

pub signed-room : (n places : ℕ) → n ≤ 16384 → unless (count_fault n) places ≡ places
signed-room n places few = within (count_fault n) places ((count_kept n).1 few)

-- of the bare layouts the room is the page's length
pub horizontal-fills : EveryHorizontalPack (λ κs a r e. a.1.0 ≤ 32 → length a.0.now ≤ 16384
    → Small a.1.0 a.0.now → EveryHorizontalBytes (λ κs' a' room e'.
    a'.0 ≡ a.1.0 → a'.1.0 ≡ length a.0.now → room ≤ length a.1.1.0.now
    → (r.code ≡ 0) × (r.number ≡ room)))
unfolding Horizontal.pack
horizontal-fills κs a r e contract narrow few small κs' a' room e' given width n lent =
    fills horizontal Horizontals.writer a.0.now a.1.0 a.1.1.0.now contract (narrow, few) small
    (given ∙ rw (width, n) (unsigned-room _ _ _ narrow few)) lent

pub vertical-fills : EveryVerticalPack (λ κs a r e. a.1.0 ≤ 32 → length a.0.now ≤ 16384
    → Small a.1.0 a.0.now → EveryVerticalWords (λ κs' a' room e'.
    a'.0 ≡ a.1.0 → a'.1.0 ≡ length a.0.now → room ≤ length a.1.1.0.now
    → (r.code ≡ 0) × (r.number ≡ room)))
unfolding Vertical.pack
vertical-fills κs a r e contract narrow few small κs' a' room e' given width n lent =
    fills vertical Verticals.writer a.0.now a.1.0 a.1.1.0.now contract (narrow, few) small
    (given ∙ rw (width, n) (unsigned-room _ _ _ narrow few)) lent

-- of the others it is enough for every list
pub runs_fit : EveryRunsPack (λ κs a r e. a.1.0 ≤ 32 → length a.0.now ≤ 16384
    → Small a.1.0 a.0.now → EveryRunsBytes (λ κs' a' room e'.
    a'.0 ≡ a.1.0 → a'.1.0 ≡ length a.0.now → room ≤ length a.1.1.0.now
    → (r.code ≡ 0) × (r.number ≤ room)))
unfolding RunWriter.pack
runs_fit κs a r e contract narrow few small κs' a' room e' given width n lent =
    let size : room ≡ Runs.enough_bytes a.1.0 (length a.0.now) =
    given ∙ rw (width, n) (unsigned-room _ _ _ narrow few) in
    let enough = stream-enough a.1.0 a.0.now few in
    let packed = fits_in runs Streams.writer a.0.now a.1.0 a.1.1.0.now contract
    (narrow, few) small (le_trans enough (rw size at lent)) in
    (packed.0, rw (packed.1, size) enough)

pub delta-fits : EveryDeltaPack (λ κs a r e. length a.0.now ≤ 16384 → AllWithin 32 a.0.now
    → EveryDeltaBytes (λ κs' a' room e'. a'.0 ≡ length a.0.now → room ≤ length a.1.0.now
    → (r.code ≡ 0) × (r.number ≤ room)))
unfolding DeltaWriter.pack
delta-fits κs a r e contract few held κs' a' room e' given n lent =
    let size : room ≡ Delta.enough_bytes 32 (length a.0.now) = given ∙ rw n (signed-room _ _ few) in
    let enough = page-enough 32 (omega arith) a.0.now few (held 0) in
    let packed = fits_in (delta 32) (Deltas.writer 32 (omega arith)) a.0.now tt a.1.0.now contract
    few tt (le_trans enough (rw size at lent)) in
    (packed.0, rw (packed.1, size) enough)

-- a scan of n entries writes all of the room that is given for its bitmap
pub bitmap-fills : EveryBitmapBytes (λ κs a room e. a.0 ≤ 16384
    → (test : ℕ → Bool) → length (bitmap a.0 test) ≡ room)
bitmap-fills κs a room e given few test = length-bitmap a.0 test ∙ sym (given ∙ signed-room _ _ few)
