-- How many bytes are enough for a block, and for the page of any n entries.
use Rattle.std.specs.Prelude.{◌≡◌, ℕ, zero, suc, ◌+◌, ◌*◌, ◌/◌, ◌<◌, ◌≤◌, List, [], ◌∷◌, length, take, drop, ℤ, pos, slice_index_or}
use Rattle.std.proofs.Common.{suc-mul, mul-le-mul_right, length-append, length-drop}
use native.Mathlib.Omega.{arith}
use Rattle.rules.specs.Bits.{ceil}
use Rattle.rules.specs.Varint.{further_of}
use Rattle.rules.specs.Signed.{zigzag_of, Within}
use Rattle.rules.specs.Shortest.{shortest}
use Rattle.rules.specs.DeltaWriter.{deltas, least, above_least, width_for, widths, bodies, block, blocks, page}
use Rattle.varints.specs.Shortness.{shortest-size}
use Rattle.signed.specs.Zigzags.{zigzag_of_lt}
use Rattle.delta_write.specs.LeastWidth.{widths_le}
use Rattle.delta_write.specs.Miniblocks.{length-widths, length-body}
use Rattle.delta_write.specs.Deltas.{length-deltas, AllWithin, deltas-within, least-within, within-take}
use Rattle.delta_write.specs.Deltas.{within-drop}
use Rattle.delta_write.specs.Blocks.{all_blocks, lengths, length-header, length-page}

-- 4 × W bytes a miniblock at most
bodies_le : (j W : ℕ) (xs : List ℕ) → length (bodies j W xs) ≤ j * (4 * W)
bodies_le zero W xs = omega arith
bodies_le (suc j) W xs =
    let w : ℕ = width_for W (take 32 xs) in
    rw (length-append, length-body, suc-mul j (4 * W))
    (omega (arith, widths_le W (take 32 xs), bodies_le j W (drop 32 xs)))

-- for a block of columns of W bits: the smallest delta, 4 width bytes, 4 bodies. Of 32 bits: 5 and 4 and 4 × 128
abbrev pub block_enough : ℕ → ℕ
block_enough W = suc (further_of W) + 4 + 4 * (4 * W)

-- for a page of n entries: 2, 1 and 3 bytes and the first value, and a block for every 128 deltas. Of 32 bits: 11
-- and 521 a block
abbrev pub enough_bytes : ℕ → ℕ → ℕ
enough_bytes W n = 6 + suc (further_of W) + (n + 126) / 128 * block_enough W

module _ (W : ℕ) (some : 0 < W) where
  pub block_le : (ds : List ℤ) → AllWithin W ds → length (block W ds) ≤ block_enough W
  unfolding block
  block_le ds h =
      let zigzags = zigzag_of_lt W (least ds) (least-within W some ds h) in
      let xs : List ℕ = above_least ds in
      omega (
        arith,
        lengths (shortest (zigzag_of (least ds))) (widths 4 W xs) (bodies 4 W xs),
        length-widths 4 W xs,
        bodies_le 4 W xs,
        (shortest-size W (zigzag_of (least ds)) zigzags).1,
      )

  blocks-le : (turns : ℕ) (ds : List ℤ) → AllWithin W ds
      → length (blocks W turns ds) ≤ ceil (length ds) 128 * block_enough W
  blocks-le zero ds h = omega arith
  blocks-le (suc turns) [] h = omega arith
  blocks-le (suc turns) (d ∷ ds) h =
      let all : List ℤ = d ∷ ds in
      let here = block_le (take 128 all) (within-take W some 128 all h) in
      let rest = blocks-le turns (drop 128 all) (within-drop W some 128 all h) in
      let one_more : suc (ceil (length (drop 128 all)) 128) ≤ ceil (length all) 128 =
      rw (length-drop 128 all) (omega arith) in
      rw length-append
      (omega (
        arith,
        suc-mul (ceil (length (drop 128 all)) 128) (block_enough W),
        mul-le-mul_right (block_enough W) one_more,
      ))

  pub all_blocks_le : (entries : List ℤ)
      → length (all_blocks W (deltas W entries)) ≤ (length entries + 126) / 128 * block_enough W
  all_blocks_le entries =
      let ds : List ℤ = deltas W entries in
      let same : ceil (length ds) 128 ≡ (length entries + 126) / 128 = rw (length-deltas W entries) (omega arith) in
      rw same at (blocks-le (length ds) ds (deltas-within W some entries))

  pub page-enough : (entries : List ℤ) → length entries ≤ 16384 → Within W (slice_index_or entries 0 (pos 0))
      → length (page W entries) ≤ enough_bytes W (length entries)
  page-enough entries few fits =
      let first : ℕ = zigzag_of (slice_index_or entries 0 (pos 0)) in
      omega (
        arith,
        length-page W entries,
        length-header entries,
        (shortest-size 8 128 (omega arith)).1,
        (shortest-size 7 4 (omega arith)).1,
        (shortest-size 15 (length entries) (omega arith)).1,
        (shortest-size W first (zigzag_of_lt W (slice_index_or entries 0 (pos 0)) fits)).1,
        all_blocks_le entries,
      )
