-- Bare horizontal pages are a bare layout, and their three contracts are its. Entry i takes bits i × w to i × w + w
-- − 1, lowest first.
use Rattle.std.specs.Prelude.{ℕ, length}
use Rattle.rules.specs.Bits.{entry}
use Rattle.rules.specs.Bits.Order.{low_first}
use Rattle.rules.specs.Horizontal as Horizontal
use Rattle.packed_entries.specs.NoneTooLarge.{small_of, large_of}
use Rattle.packed_entries.specs.Packed.{length-packed}
use Rattle.packed_entries.specs.RoundTrip.{entries-small, unpack-packed, unused-packed, pack_unpacked}
use Rattle.promises.specs.Layouts.{Layout}
use Rattle.promises.specs.Writers.{Writer}
use Rattle.promises.specs.Unsigned.{unsigned, unsigned-writer}
use Rattle.promises.specs.Bare.{Bare}
use Rattle.promises.specs.HorizontalFaults.{Exact, exact, page-exact}

abbrev pub horizontal : Layout ℕ ℕ
horizontal = unsigned (Horizontal.page_fault low_first) Exact page-exact (λ page w n. entry low_first page w)

abbrev pub writer : Writer horizontal
writer =
    unsigned-writer _ _ page-exact (λ page w n. entry low_first page w)
    (Horizontal.packed low_first) (λ w xs. Horizontal.page_bytes w (length xs)) (length-packed low_first)
    (λ w xs few small. (exact (Horizontal.packed low_first w xs) w (length xs)).0
    (length-packed low_first w xs, unused-packed w xs (large_of w xs small)))
    (λ w xs few small. unpack-packed w xs (large_of w xs small))

abbrev pub bare : Bare horizontal writer
bare =
    record {
      bits = 8;
      entries_fit = λ w n page. small_of w _ (entries-small w n page);
      entries-packed =
          λ w n page bytes good. let e = (exact page w n).1 good in pack_unpacked w n page bytes e.0 e.1;
    }
