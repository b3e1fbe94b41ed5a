-- The room that a C function gives is enough for any bitmap's spans.
use Rattle.std.specs.Prelude.{◌≡◌, ◌+◌, ◌*◌, ◌/◌, ◌≤◌, length}
use Rattle.std.proofs.Common.{◌∙◌, le_trans}
use Rattle.rules.specs.Bits.{ceil}
use Rattle.spans_list.specs.Turns.{spans-enough}
use Rattle.promises.proofs.Exported.{spans_from_bitmap_lem}
use Rattle.promises.specs.Calls.{EverySpansPlaces, EverySpansFromBitmap}
use Rattle.promises.specs.Rooms.{signed-room}

-- the spans of any bitmap that is long enough are written, never 4
pub spans_fit : EverySpansFromBitmap (λ κs a r e. a.1.0 ≤ 16384 → ceil a.1.0 8 ≤ length a.0.now
    → EverySpansPlaces (λ κs' a' room e'. a'.0 ≡ a.1.0 → room ≤ length a.1.1.0.now
    → (r.code ≡ 0) × (2 * r.number ≤ room)))
spans_fit κs a r e contract few long κs' a' room e' given n lent =
    let size : room ≡ 2 * ((a.1.0 + 1) / 2) = given ∙ rw n (signed-room _ _ few) in
    let enough = spans-enough a.0.now a.1.0 in
    let keeps = spans_from_bitmap_lem κs a r e contract in
    let ok = keeps.accepted.1 (few, (long, le_trans enough (rw size at lent))) in
    (ok, rw ((keeps.gives ok).1.number_is, size) enough)
