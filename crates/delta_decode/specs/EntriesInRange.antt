-- Every entry of a page is a signed number of W bits, so a band's range selects those that the band does.
use Rattle.std.specs.Prelude.{◌≡◌, List, ℕ, ◌-◌, ◌<◌, pos}
use Rattle.std.proofs.Common.{ap, ◌∙◌, arith, pow_pos}
use Rattle.rules.specs.Bits.{put}
use Rattle.rules.specs.Bitmap.{bitmap}
use Rattle.rules.specs.Signed.{zigzag, Within}
use Rattle.rules.specs.Delta.{Deltas, blocks_at, begun, opened, read, page_entry}
use Rattle.rules.specs.Delta.Deltas.{good, bad}
use Rattle.rules.specs.Delta.{Head}
use Rattle.signed.specs.Raised.{raised}
use Rattle.signed.specs.Zigzags.{zigzag-within}
use Rattle.signed.specs.Entries.{entry-within}
use Rattle.bitmaps.specs.Bitmaps.{bitmap-ext}
use Rattle.compare.specs.Band.{banded}
use Rattle.compare.specs.Range.{ranged}
use Rattle.compare.specs.SignedRange.{signed_range_of}
use Rattle.compare.specs.SignedRanges.{signed-ranged-band}
use Rattle.compare.specs.declared.bands.Band.{Band}
use Rattle.compare.specs.declared.ranges.Range.{Range}
use Rattle.delta_read.specs.Heads.{Opens, head-opens}
use Rattle.delta_read.specs.Heads.Opens.{unopened, opens}

pub page-within : (W n : ℕ) (page : List ℕ) → 0 < W → (i : ℕ) → Within W (page_entry W (read W n page) i)
unfolding read zigzag
page-within W n page some i = by-head (head-opens W n page)
  where
    none : Within W (pos 0)
    none = zigzag-within W 0 some (pow_pos W)

    by-deltas : (first : ℕ) → Within W (zigzag first) → (ds : Deltas)
        → Within W (page_entry W (begun (zigzag first) ds) i)
    by-deltas first h (good ds) = entry-within W (zigzag first) ds h i
    by-deltas first h (bad code) = none

    by-head : {h : Head} → Opens W page h → Within W (page_entry W (opened W n page h) i)
    by-head (unopened code coded) = none
    by-head (opens size minis first next shaped small within) =
        by-deltas first (zigzag-within W first some small) (blocks_at W size minis (n - 1) (n - 1) page next)

-- the bitmap that a band's range leaves
pub selected-banded : (n : ℕ) (page : List ℕ) (band : Band) (range : Range) (before after : List ℕ)
    → range ≡ signed_range_of band
    → after ≡ put before 0 (bitmap n (λ i. ranged range (raised 32 (page_entry 32 (read 32 n page) i))))
    → after ≡ put before 0 (bitmap n (λ i. banded band (page_entry 32 (read 32 n page) i)))
selected-banded n page band range before after e done =
    done ∙ ap (λ (r : Range). put before 0 (bitmap n (λ i. ranged r (raised 32 (page_entry 32 (read 32 n page) i))))) e
    ∙ ap (put before 0)
    (bitmap-ext n
    (λ i l. signed-ranged-band band (page_entry 32 (read 32 n page) i) (page-within 32 n page (omega arith) i)))
