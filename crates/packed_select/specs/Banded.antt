-- The entries that a band's range selects are those of the band.
use Rattle.std.specs.Prelude.{◌≡◌, List, ℕ, ◌*◌, ◌≤◌, pos}
use Rattle.rules.specs.Bits.{entry}
use Rattle.rules.specs.Bits.Order.{low_first}
use Rattle.rules.specs.Bitmap.{bitmap}
use Rattle.words.specs.Entries.{field-small}
use Rattle.bitmaps.specs.Bitmaps.{bitmap-ext}
use Rattle.compare.specs.Band.{banded}
use Rattle.compare.specs.Range.{ranged, range_of}
use Rattle.compare.specs.Ranges.{ranged-band}
use Rattle.compare.specs.declared.bands.Band.{Band}
use Rattle.packed_kernels.specs.Selected.{selected}

pub selected-banded : (page : List ℕ) (n w : ℕ) (band : Band) → w ≤ 32
    → selected page n w (ranged (range_of band)) ≡ bitmap n (λ i. banded band (pos (entry low_first page w i)))
unfolding selected
selected-banded page n w band h =
    bitmap-ext n (λ i l. ranged-band band (entry low_first page w i) (field-small page (i * w) w h))
