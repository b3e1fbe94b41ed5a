-- Bit planes are a bare layout, and their three contracts are its. Entry i is bit i mod 64 of the w words of group
-- i div 64, the first the highest.
use Rattle.std.specs.Prelude.{ℕ, length}
use Rattle.rules.specs.Vertical as Vertical
use Rattle.packed_entries.specs.NoneTooLarge.{small_of, large_of}
use Rattle.vertical_turn.specs.ColumnThereAndBack.{length-packed, entries-small, unpack-packed, unused-packed}
use Rattle.vertical_turn.specs.ColumnThereAndBack.{pack_unpacked}
use Rattle.promises.specs.Layouts.{Layout}
use Rattle.promises.specs.Writers.{Writer}
use Rattle.promises.specs.Unsigned.{unsigned, unsigned-writer}
use Rattle.promises.specs.Bare.{Bare}
use Rattle.promises.specs.VerticalFaults.{Exact, exact, column-exact}

abbrev pub vertical : Layout ℕ ℕ
vertical = unsigned Vertical.page_fault Exact column-exact (λ words w n. Vertical.entry words w)

abbrev pub writer : Writer vertical
writer =
    unsigned-writer _ _ column-exact (λ words w n. Vertical.entry words w)
    Vertical.packed (λ w xs. Vertical.page_words w (length xs)) length-packed
    (λ w xs few small. (exact (Vertical.packed w xs) w (length xs)).0
    (length-packed w xs, unused-packed w xs (large_of w xs small)))
    (λ w xs few small. unpack-packed w xs (large_of w xs small))

abbrev pub bare : Bare vertical writer
bare =
    record {
      bits = 64;
      entries_fit = λ w n words. small_of w _ (entries-small w n words);
      entries-packed =
          λ w n words fits good. let e = (exact words w n).1 good in pack_unpacked w n words fits e.0 e.1;
    }
