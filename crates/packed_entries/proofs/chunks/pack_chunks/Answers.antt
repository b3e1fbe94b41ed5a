-- `packed_entries::chunks::pack_chunks` meets its contract: each turn lays k entries, as one number, behind those
-- that are laid.
use mathlib.Core.Path.{◌∙◌}
use mathlib.Core.List.{[]}
use Prim.Native.Nat.{◌+◌, ◌*◌, ◌≤◌}
use native.Mathlib.Nat.{add-mul, mul_assoc, mul-pos, one-mul, zero-mul}
use native.Mathlib.Omega.{arith}
use lib.ListN.{length, drop, length-drop}
use lib.Seq.{drop-drop}
use Rattle.rules.specs.Bits.Order.{low_first}
use Rattle.words.specs.Entries.{place-within}
use Rattle.words.specs.Joined.{small-drop}
use Rattle.words.specs.Puts.{put-none}
use Rattle.packed_entries.specs.Digits.{first_below}
use Rattle.packed_entries.specs.NoneTooLarge.{small_of}
use Rattle.packed_entries.specs.Packed.{packed_none, laid_more}
use Rattle.packed_entries.proofs.chunks.pack_chunks.Goals as goal

pub loop-j-init : goal.loop-j-init
loop-j-init c =
    let a = c.args in
    rw (zero-mul a.k, packed_none low_first a.w [] (zero-mul a.w)) (put-none a.part.now 0)

pub append_at-requires : goal.append_at-requires
append_at-requires c =
    let a = c.args in
    let j = c.loop-j.j in
    let place = place-within a.k j a.c (omega arith) in
    let at = a.i + j * a.k in
    let small = small-drop a.w at a.entries.now (small_of a.w a.entries.now c.requires.5) in (
      omega arith,
      mul-pos c.requires.1 c.requires.2,
      rw c.chunk.ensures
          (first_below a.w a.k (drop at a.entries.now) (rw length-drop (omega arith)) small),
      omega (arith, place-within (a.k * a.w) j a.c (omega arith), mul_assoc a.c a.k a.w),
    )

pub loop-j-preserved : goal.loop-j-preserved
loop-j-preserved c =
    let a = c.args in
    let l = c.loop-j in
    let laid = c.append_at in
    let xs = drop a.i a.entries.now in
    let small = small-drop a.w a.i a.entries.now (small_of a.w a.entries.now c.requires.5) in
    let there : l.j * a.k + a.k ≤ length xs = rw length-drop
    (omega (arith, place-within a.k l.j a.c (omega arith))) in
    laid.ensures
    ∙ rw (
      l.invariant,
      c.chunk.ensures,
      ← (drop-drop (l.j * a.k) a.i a.entries.now),
      ← (mul_assoc l.j a.k a.w),
      add-mul l.j 1 a.k,
      one-mul,
    )
    (laid_more a.part.now xs a.w (l.j * a.k) a.k there small)
