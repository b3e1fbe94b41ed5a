-- Set bits past the entry count, and later bytes, of the bitmap that spans are taken from are not read: two calls whose
-- bitmaps agree below it, with the same places lent, answer alike.
use Rattle.std.specs.Prelude.{◌≡◌, ◌≤◌, length}
use Rattle.std.proofs.Common.{sym, ◌∙◌}
use Rattle.rules.specs.Bits.{ceil}
use Rattle.rules.specs.Answer.Outcome.{outcome}
use Rattle.promises.specs.Spans.{Agree, not-read}
use Rattle.promises.specs.Calls.{EverySpansFromBitmap}

pub spans_from_bitmap_lem : EverySpansFromBitmap (λ κs a r e. EverySpansFromBitmap (λ κs' a' r' e'.
    a'.1.0 ≡ a.1.0 → a'.1.1.0.now ≡ a.1.1.0.now → Agree a.1.0 a'.0.now a.0.now
    → ceil a.1.0 8 ≤ length a.0.now → ceil a.1.0 8 ≤ length a'.0.now
    → outcome r' e'.1.1.0.now ≡ outcome r e.1.1.0.now))
spans_from_bitmap_lem κs a r e contract κs' a' r' e' again n places agree long long' =
    again ∙ rw (n, places) (not-read a.1.0 a'.0.now a.0.now a.1.1.0.now long' long agree)
    ∙ sym contract
