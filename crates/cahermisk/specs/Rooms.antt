-- How many places to lend for what a call writes: what the header's macros give, within the limits of the column.
use Rattle.std.specs.Prelude.{◌≡◌, refl, Bool, true, false, ℕ, zero, suc, ◌+◌, ◌*◌, ◌/◌, ◌≤◌, ltb}
use Rattle.std.proofs.Common.{arith, ltb-false}
use Rattle.rules.specs.Bits.{ceil}
use Rattle.rules.specs.Answer.{faulty, count_fault, limit_fault}
use Rattle.rules.specs.Horizontal.{page_bytes}
use Rattle.rules.specs.Vertical.{page_words}
use Rattle.runs_write.specs.Sizes as Runs
use Rattle.delta_write.specs.Sizes as Delta

-- 0 where there is a fault of the limits: no call accepts more
abbrev pub unless : ℕ → ℕ → ℕ
unless zero places = places
unless (suc fault) places = 0

-- the bitmap of n entries, exactly
abbrev pub bitmap_bytes : ℕ → ℕ
bitmap_bytes n = unless (count_fault n) (ceil n 8)

-- the bare pages of n entries, exactly
abbrev pub horizontal_bytes : ℕ → ℕ → ℕ
horizontal_bytes w n = unless (limit_fault w n) (page_bytes w n)

abbrev pub vertical_words : ℕ → ℕ → ℕ
vertical_words w n = unless (limit_fault w n) (page_words w n)

-- enough for the run stream, and for the delta page, of any n entries
abbrev pub runs_bytes : ℕ → ℕ → ℕ
runs_bytes w n = unless (limit_fault w n) (Runs.enough_bytes w n)

abbrev pub delta_bytes : ℕ → ℕ
delta_bytes n = unless (count_fault n) (Delta.enough_bytes 32 n)

-- enough for the stretches of any n entries
abbrev pub spans_places : ℕ → ℕ
spans_places n = unless (count_fault n) (2 * ((n + 1) / 2))

pub within : (fault places : ℕ) → fault ≡ 0 → unless fault places ≡ places
within zero places e = refl
within (suc fault) places e = absurd (omega arith)

pub beyond : (fault places : ℕ) → (fault ≡ 0 → ⊥) → unless fault places ≡ 0
beyond zero places some = absurd (some refl)
beyond (suc fault) places some = refl

-- the entries of a column, where there is a fault of their count none
pub kept-few : (n : ℕ) → unless (count_fault n) n ≤ 16384
kept-few n = go (ltb 16384 n) refl
  where
    go : (t : Bool) → ltb 16384 n ≡ t → unless (faulty t 2) n ≤ 16384
    go true e = omega arith
    go false e = ltb-false 16384 n e

-- what takes no place for none of them
pub unless_of : (fault n : ℕ) (places : ℕ → ℕ) → places 0 ≡ 0 → places (unless fault n) ≡ unless fault (places n)
unless_of zero n places none = refl
unless_of (suc fault) n places none = none
