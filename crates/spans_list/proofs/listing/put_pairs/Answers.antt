-- `spans_list::listing::put_pairs` meets its contract: each turn puts two of the edges that are left, of which a
-- stretch begins at the first.
use mathlib.Core.Path.{◌≡◌, refl}
use mathlib.Core.Bool.{true, false}
use mathlib.Core.List.{List}
use Prim.Native.Nat.{ℕ, ◌+◌, ◌-◌, ◌^◌, ◌≤◌, ◌<◌}
use native.Mathlib.Omega.{arith}
use lib.Bits.{bit_and, and_le_l, and_le_r}
use lib.Count.{ones, count_trailing_zeros}
use lib.ListN.{length, set, length-set}
use Rattle.spans_list.specs.SetBits.{Found, found_none, found-room, found-more, found_all, trailing_lt}
use Rattle.spans_list.specs.SetBits.{cleared_low, trailing_even}
use Rattle.spans_list.proofs.listing.put_pairs.Goals as goal

pub loop-left-init : goal.loop-left-init
loop-left-init c = (found_none _ _ _ _ _ _, refl, omega arith)

module _ {turns p left q at : ℕ} {before places : List ℕ}
    (found : Found false 64 p turns false left before places q at) (small : turns < 2 ^ 64)
    (room : q + ones turns ≤ length before) (some : 0 < left) (fits : left < 2 ^ 64) where
  -- a stretch begins: where the edge lies, and that there is room for it
  begins : (count_trailing_zeros 64 left < 64) × (at < length before)
  begins = (trailing_lt 64 left some fits, found-room found small room some fits)

  begun : Found false 64 p turns true (bit_and left (left - 1)) before
      (set places at (p + count_trailing_zeros 64 left)) q (at + 1)
  begun = found-more found small room some fits

  -- and ends
  module _ {more : ℕ} (is : more ≡ bit_and left (left - 1)) (another : 0 < more) where
    ends : (more < 2 ^ 64) × (more < left) × (0 < count_trailing_zeros 64 more) × (count_trailing_zeros 64 more < 64)
        × (at + 1 < length before)
    ends =
        let low : more ≤ left - 1 = rw is (and_le_r left (left - 1)) in
        let fit : more < 2 ^ 64 = omega arith in (
          fit,
          omega arith,
          rw is (trailing_even 63 (bit_and left (left - 1)) (cleared_low left)),
          trailing_lt 64 more another fit,
          found-room begun small room (rw (← is) another) (rw (← is) fit),
        )

    ended : Found false 64 p turns false (bit_and more (more - 1)) before
        (set (set places at (p + count_trailing_zeros 64 left)) (at + 1) (p + count_trailing_zeros 64 more - 1)) q
        (at + 2)
    ended =
        let two : at + 1 + 1 ≡ at + 2 = omega arith in
        rw (← two, is) (found-more begun small room (rw (← is) another) (rw (← is) ends.0))

pub offset_bounds-places-at : goal.offset_bounds-places-at
offset_bounds-places-at c =
    let l = c.loop-left in
    omega (arith, begins l.invariant.0 (omega arith) c.requires.1 (omega arith) l.invariant.2)

pub bounds-places-at : goal.bounds-places-at
bounds-places-at c =
    let l = c.loop-left in
    omega (arith, begins l.invariant.0 (omega arith) c.requires.1 (omega arith) l.invariant.2, l.invariant.1)

pub overflow_add-result : goal.overflow_add-result
overflow_add-result c =
    let l = c.loop-left in
    omega (arith, begins l.invariant.0 (omega arith) c.requires.1 (omega arith) l.invariant.2)

pub returns-then-more-eq0 : goal.returns-then-more-eq0
returns-then-more-eq0 c =
    let l = c.loop-left in
    let all = found_all (begun l.invariant.0 (omega arith) c.requires.1 (omega arith) l.invariant.2) (omega arith)
    c.requires.1 c.if-more-eq0.true in
    record { place = all.0; wrote = all.1 }

pub overflow_sub-places : goal.overflow_sub-places
overflow_sub-places c =
    let l = c.loop-left in
    omega (arith, ends l.invariant.0 (omega arith) c.requires.1 (omega arith) l.invariant.2 refl (omega arith))

pub overflow_add-places-in-loop-left-2 : goal.overflow_add-places-in-loop-left-2
overflow_add-places-in-loop-left-2 c =
    let l = c.loop-left in
    omega (arith, ends l.invariant.0 (omega arith) c.requires.1 (omega arith) l.invariant.2 refl (omega arith))

pub offset_bounds-places-at-in-loop-left : goal.offset_bounds-places-at-in-loop-left
offset_bounds-places-at-in-loop-left c =
    let l = c.loop-left in
    omega (arith, ends l.invariant.0 (omega arith) c.requires.1 (omega arith) l.invariant.2 refl (omega arith))

pub bounds-places-at-in-loop-left : goal.bounds-places-at-in-loop-left
bounds-places-at-in-loop-left c =
    let l = c.loop-left in
    let e = ends l.invariant.0 (omega arith) c.requires.1 (omega arith) l.invariant.2 refl (omega arith) in
    simp length-set (omega (arith, e, l.invariant.1))

pub overflow_add-at : goal.overflow_add-at
overflow_add-at c =
    let l = c.loop-left in
    omega (arith, ends l.invariant.0 (omega arith) c.requires.1 (omega arith) l.invariant.2 refl (omega arith))

pub loop-left-preserved : goal.loop-left-preserved
loop-left-preserved c =
    let l = c.loop-left in
    let more = bit_and l.left (l.left - 1) in
    let e = ends l.invariant.0 (omega arith) c.requires.1 (omega arith) l.invariant.2 refl (omega arith) in (
      ended l.invariant.0 (omega arith) c.requires.1 (omega arith) l.invariant.2 refl (omega arith),
      simp length-set l.invariant.1,
      omega (arith, e, and_le_l more (more - 1)),
    )

pub returns : goal.returns
returns c =
    let all = found_all c.loop-left.invariant.0 (omega arith) c.requires.1 (omega arith) in
    record { place = all.0; wrote = all.1 }
