-- What is packed is read back, and what is unpacked of a bare page packs to it again: of two calls, of which the second
-- is given what the first left (a bitmap and its spans: proofs/ThereAndBack). A second call's arguments, answer and exit
-- are marked a', r', e'.
use Rattle.std.specs.Prelude.{◌≡◌, ◌≤◌, length, take}
use Rattle.std.proofs.Common.{◌∙◌, arith}
use Rattle.rules.specs.Bits.{put}
use Rattle.rules.specs.Answer.{accepted}
use Rattle.rules.specs.Answer.Outcome.{outcome}
use Rattle.rules.specs.Horizontal as Horizontal
use Rattle.rules.specs.Vertical as Vertical
use Rattle.rules.specs.Runs as Runs
use Rattle.rules.specs.RunWriter as RunWriter
use Rattle.rules.specs.Delta as Delta
use Rattle.rules.specs.DeltaWriter as DeltaWriter
use Rattle.words.specs.Joined.{Small}
use Rattle.delta_write.specs.Deltas.{AllWithin}
use Rattle.promises.specs.Writers.{packed-unpacks}
use Rattle.promises.specs.Bare.{unpacked_packs}
use Rattle.promises.specs.Horizontal as Horizontals
use Rattle.promises.specs.Horizontal.{horizontal}
use Rattle.promises.specs.Vertical as Verticals
use Rattle.promises.specs.Vertical.{vertical}
use Rattle.promises.specs.Runs as Streams
use Rattle.promises.specs.Runs.{runs}
use Rattle.promises.specs.Delta as Deltas
use Rattle.promises.specs.Delta.{delta}
use Rattle.promises.specs.Calls.{EveryHorizontalUnpack, EveryHorizontalPack, EveryVerticalUnpack}
use Rattle.promises.specs.Calls.{EveryVerticalPack, EveryRunsUnpack, EveryRunsPack, EveryDeltaUnpack}
use Rattle.promises.specs.Calls.{EveryDeltaPack}

-- ---- packed, and unpacked with room for the entries: they are the entries

pub horizontal-reads-back : EveryHorizontalPack (λ κs a r e. r.code ≡ 0 → EveryHorizontalUnpack (λ κs' a' r' e'.
    a'.0.now ≡ take r.number e.1.1.0.now → a'.1.0 ≡ a.1.0 → a'.1.1.0 ≡ length a.0.now
    → length a.0.now ≤ length a'.1.1.1.0.now
    → outcome r' e'.1.1.1.0.now
    ≡ outcome (accepted (length a.0.now)) (put a'.1.1.1.0.now 0 a.0.now)))
unfolding Horizontal.pack Horizontal.unpack
horizontal-reads-back κs a r e contract ok κs' a' r' e' again page width n room =
    again
    ∙ rw (page, width, n)
    (packed-unpacks horizontal Horizontals.writer a.0.now a.1.0 a.1.1.0.now contract ok tt
    a'.1.1.1.0.now room)

pub vertical-reads-back : EveryVerticalPack (λ κs a r e. r.code ≡ 0 → EveryVerticalUnpack (λ κs' a' r' e'.
    a'.0.now ≡ take r.number e.1.1.0.now → a'.1.0 ≡ a.1.0 → a'.1.1.0 ≡ length a.0.now
    → length a.0.now ≤ length a'.1.1.1.0.now
    → outcome r' e'.1.1.1.0.now
    ≡ outcome (accepted (length a.0.now)) (put a'.1.1.1.0.now 0 a.0.now)))
unfolding Vertical.pack Vertical.unpack
vertical-reads-back κs a r e contract ok κs' a' r' e' again words width n room =
    again
    ∙ rw (words, width, n)
    (packed-unpacks vertical Verticals.writer a.0.now a.1.0 a.1.1.0.now contract ok tt
    a'.1.1.1.0.now room)

pub runs-reads-back : EveryRunsPack (λ κs a r e. r.code ≡ 0 → EveryRunsUnpack (λ κs' a' r' e'.
    a'.0.now ≡ take r.number e.1.1.0.now → a'.1.0 ≡ a.1.0 → a'.1.1.0 ≡ length a.0.now
    → length a.0.now ≤ length a'.1.1.1.0.now
    → outcome r' e'.1.1.1.0.now
    ≡ outcome (accepted (length a.0.now)) (put a'.1.1.1.0.now 0 a.0.now)))
unfolding RunWriter.pack Runs.unpack
runs-reads-back κs a r e contract ok κs' a' r' e' again page width n room =
    again
    ∙ rw (page, width, n)
    (packed-unpacks runs Streams.writer a.0.now a.1.0 a.1.1.0.now contract ok tt
    a'.1.1.1.0.now room)

-- the entries lent are signed numbers of 32 bits
pub delta-reads-back : EveryDeltaPack (λ κs a r e. r.code ≡ 0 → AllWithin 32 a.0.now
    → EveryDeltaUnpack (λ κs' a' r' e'.
    a'.0.now ≡ take r.number e.1.0.now → a'.1.0 ≡ length a.0.now
    → length a.0.now ≤ length a'.1.1.0.now
    → outcome r' e'.1.1.0.now
    ≡ outcome (accepted (length a.0.now)) (put a'.1.1.0.now 0 a.0.now)))
unfolding DeltaWriter.pack Delta.unpack
delta-reads-back κs a r e contract ok held κs' a' r' e' again page n room =
    again
    ∙ rw (page, n)
    (packed-unpacks (delta 32) (Deltas.writer 32 (omega arith)) a.0.now tt a.1.0.now contract ok held
    a'.1.1.0.now room)

-- ---- unpacked, and packed with room for the page: it is the page

-- the page lent is bytes
pub horizontal-packs-back : EveryHorizontalUnpack (λ κs a r e. r.code ≡ 0 → Small 8 a.0.now
    → EveryHorizontalPack (λ κs' a' r' e'.
    a'.0.now ≡ take a.1.1.0 e.1.1.1.0.now → a'.1.0 ≡ a.1.0
    → length a.0.now ≤ length a'.1.1.0.now
    → outcome r' e'.1.1.0.now
    ≡ outcome (accepted (length a.0.now)) (put a'.1.1.0.now 0 a.0.now)))
unfolding Horizontal.pack Horizontal.unpack
horizontal-packs-back κs a r e contract ok bytes κs' a' r' e' again entries width room =
    again ∙ rw (entries, width)
    (unpacked_packs horizontal Horizontals.writer Horizontals.bare a.0.now a.1.0 a.1.1.0
    a.1.1.1.0.now a'.1.1.0.now bytes contract ok room)

-- and the words are of 64 bits
pub vertical-packs-back : EveryVerticalUnpack (λ κs a r e. r.code ≡ 0 → Small 64 a.0.now
    → EveryVerticalPack (λ κs' a' r' e'.
    a'.0.now ≡ take a.1.1.0 e.1.1.1.0.now → a'.1.0 ≡ a.1.0
    → length a.0.now ≤ length a'.1.1.0.now
    → outcome r' e'.1.1.0.now
    ≡ outcome (accepted (length a.0.now)) (put a'.1.1.0.now 0 a.0.now)))
unfolding Vertical.pack Vertical.unpack
vertical-packs-back κs a r e contract ok words κs' a' r' e' again entries width room =
    again ∙ rw (entries, width)
    (unpacked_packs vertical Verticals.writer Verticals.bare a.0.now a.1.0 a.1.1.0
    a.1.1.1.0.now a'.1.1.0.now words contract ok room)
