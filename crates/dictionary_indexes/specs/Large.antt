-- Indexes that are too large, found by a comparison: those outside the range below the limit.
use Rattle.std.specs.Prelude.{◌≡◌, Bool, true, List, ℕ, ◌+◌, ◌*◌, ◌≤◌, ◌<◌, leb, ltb, take, drop}
use Rattle.std.proofs.Common.{sym, ap, ◌∙◌, arith, le-ltb}
use Rattle.rules.specs.Bits.{ceil, put, field, entry, some_below}
use Rattle.rules.specs.Bits.Order.{low_first}
use Rattle.words.specs.Entries.{field-window, field-small, place-within}
use Rattle.signed.specs.Order.{not-ltb}
use Rattle.bitmaps.specs.Bitmaps.{count-bitmap, take-bitmap}
use Rattle.bitmaps.specs.Counts.{count_ones, tally-some, tally-ext}
use Rattle.compare.specs.Range.{ranged, range_to}
use Rattle.compare.specs.Ranges.{ranged_to}
use Rattle.packed_kernels.specs.Selected.{selected}

-- the indexes that are not below the limit
ranged-large : (limit x : ℕ) → x < 4294967296 → ranged (range_to 0 limit true) x ≡ leb limit x
ranged-large limit x h = ranged_to 0 limit true x h ∙ rw (le-ltb x 0 (omega arith)) (sym (not-ltb limit x))

-- of the m entries from byte `start` on, some are selected where one or more bits are set
pub some-selected : (scratch page : List ℕ) (start n w m limit : ℕ) → m * w ≤ 8 * n → w ≤ 32
    → ltb 0
    (count_ones
    (take (ceil m 8) (put scratch 0 (selected (take n (drop start page)) m w (ranged (range_to 0 limit true))))))
    ≡ some_below m (λ k. leb limit (field low_first page (8 * start + k * w) w))
unfolding selected
some-selected scratch page start n w m limit fits narrow =
    let part : List ℕ = take n (drop start page) in
    let test : ℕ → Bool = λ k. ranged (range_to 0 limit true) (entry low_first part w k) in
    let same : (k : ℕ) → k < m → test k ≡ leb limit (field low_first page (8 * start + k * w) w) =
    λ k l. ranged-large limit (entry low_first part w k) (field-small part (k * w) w narrow) ∙ ap (leb limit)
    (field-window page start n (k * w) w (omega (arith, place-within w k m l))) in
    ap (λ (l : List ℕ). ltb 0 (count_ones l)) (take-bitmap scratch m test)
    ∙ ap (ltb 0) (count-bitmap m test ∙ tally-ext m same)
    ∙ sym (tally-some m (λ k. leb limit (field low_first page (8 * start + k * w) w)))
