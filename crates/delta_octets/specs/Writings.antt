-- What a way of writing entries keeps, and that both ways keep it.
use Rattle.std.specs.Prelude.{◌≡◌, ℕ, ◌+◌, ◌%◌, ◌≤◌, List, length, ℤ}
use Rattle.std.proofs.Common.{arith}
use Rattle.rules.specs.Bits.{ceil}
use Rattle.compare.specs.Range.{ranged, BoundedRange}
use Rattle.compare.specs.declared.ranges.Range.{Range}
use Rattle.delta_octets.specs.EntryByEntry.{Starts, Grows}
use Rattle.delta_octets.specs.TwoWritings.{selects, selects-none, selects-more, places, places-none, places-more}

pub record WritingLaws {S O : Type 0} (write : S → ℕ → ℕ → (ℕ → ℕ) → List O → List O)
    (Room : S → ℕ → ℕ → List O → Type 0) : Type 0 where
  pub starts : (s : S) (i : ℕ) (out : List O) → Starts (write s) i out
  pub grows : (s : S) (i size : ℕ) (out : List O) → Room s i size out → Grows (write s) i size out
  -- a part of the entries, behind whole bytes, has room too
  pub part : (s : S) (i size k m : ℕ) (out now : List O) → Room s i size out → length now ≡ length out → k % 8 ≡ 0
      → k + m ≤ size → Room s (i + k) m now

abbrev pub PlacesRoom : ℕ → ℕ → List ℤ → Type 0
PlacesRoom i size out = i + size ≤ length out

abbrev pub SelectsRoom : Range → ℕ → ℕ → List ℕ → Type 0
SelectsRoom range i size out = (i % 8 ≡ 0) × (ceil (i + size) 8 ≤ length out) × BoundedRange range

pub places_laws : {S : Type 0} → WritingLaws {S = S} (λ _. places 32) (λ _. PlacesRoom)
places_laws =
    record {
      starts = λ s. places-none 32;
      grows = λ s i size out room. places-more 32 i out size room;
      part = λ s i size k m out now room same whole fits. omega arith;
    }

pub selects_laws : WritingLaws (λ (range : Range). selects (ranged range)) SelectsRoom
selects_laws =
    record {
      starts = λ range. selects-none (ranged range);
      grows = λ range i size out room. selects-more (ranged range) i out size room.0 room.1;
      part = λ range i size k m out now room same whole fits. (omega arith, omega arith, room.2);
    }
