-- A bitmap and its spans make each other: of two calls, of which the second is given what the first left. A second call's
-- arguments, answer and exit are marked a', r', e'.
use Rattle.std.specs.Prelude.{◌≡◌, ◌*◌, ◌/◌, ◌≤◌, length, take}
use Rattle.std.proofs.Common.{◌∙◌}
use Rattle.rules.specs.Bits.{ceil, put}
use Rattle.rules.specs.Answer.{accepted}
use Rattle.rules.specs.Answer.Outcome.{outcome}
use Rattle.words.specs.Joined.{Small}
use Rattle.bitmaps.specs.Counts.{count_ones}
use Rattle.promises.specs.Spans.{UnusedClear}
use Rattle.promises.proofs.Spans.{bitmap-back, list_back}
use Rattle.promises.specs.Calls.{EverySpansFromBitmap, EverySpansToBitmap}

-- ---- a bitmap's spans, and their bitmap with room for it: it is the bytes that n reaches, where the bitmap lent is
-- bytes and its bits past n are 0

pub spans_mark_back : EverySpansFromBitmap (λ κs a r e. r.code ≡ 0 → Small 8 a.0.now
    → UnusedClear a.1.0 a.0.now → EverySpansToBitmap (λ κs' a' r' e'.
    a'.0.now ≡ take (2 * r.number) e.1.1.0.now → a'.1.0 ≡ a.1.0
    → ceil a.1.0 8 ≤ length a'.1.1.0.now
    → outcome r' e'.1.1.0.now
    ≡ outcome (accepted (count_ones (take (ceil a.1.0 8) a.0.now)))
    (put a'.1.1.0.now 0 (take (ceil a.1.0 8) a.0.now))))
spans_mark_back κs a r e contract ok bytes clear κs' a' r' e' again list n room =
    again ∙ rw (list, n)
    (bitmap-back a.0.now a.1.0 a.1.1.0.now contract ok bytes clear a'.1.1.0.now room)

-- ---- the bitmap of a list of spans, and its spans with room for them: they are the list

pub spans_list_back : EverySpansToBitmap (λ κs a r e. r.code ≡ 0 → EverySpansFromBitmap (λ κs' a' r' e'.
    a'.0.now ≡ take (ceil a.1.0 8) e.1.1.0.now → a'.1.0 ≡ a.1.0
    → length a.0.now ≤ length a'.1.1.0.now
    → outcome r' e'.1.1.0.now
    ≡ outcome (accepted (length a.0.now / 2)) (put a'.1.1.0.now 0 a.0.now)))
spans_list_back κs a r e contract ok κs' a' r' e' again bitmap n room =
    again ∙ rw (bitmap, n)
    (list_back a.0.now a.1.0 a.1.1.0.now contract ok a'.1.1.0.now room)
