-- `packed_entries::packing::pack` meets its contract: the groups' page, and behind it that of the entries that are
-- left.
use mathlib.Core.Path.{◌≡◌, refl, sym, ap, ◌∙◌}
use Prim.Native.Nat.{ℕ, ◌+◌, ◌*◌, ◌/◌, ◌%◌}
use native.Mathlib.Nat.{mul-one, mul-zero, one-mul}
use native.Mathlib.Omega.{arith}
use lib.ListN.{length, take, length-drop}
use lib.Seq.{take_all}
use Rattle.rules.specs.Bits.{put}
use Rattle.rules.specs.Bits.Order.{low_first}
use Rattle.rules.specs.Horizontal.{packed, page_bytes}
use Rattle.words.specs.Puts.{put-none, part_put, part_rest}
use Rattle.packed_entries.specs.GroupByGroup.{bytes-behind, laid-behind}
use Rattle.packed_entries.specs.NoneTooLarge.{small_of}
use Rattle.packed_entries.specs.Packed.{packed_none}
use Rattle.packed_entries.proofs.packing.pack.Goals as goal

-- the bytes of the groups, and those of the entries that are left
bytes-of-both : (w n : ℕ) → page_bytes w n ≡ n / 8 * w + page_bytes w (n % 8)
bytes-of-both w n =
    let both : n ≡ 8 * (n / 8) + n % 8 = omega arith in
    ap (page_bytes w) both ∙ bytes-behind w (n / 8) (n % 8)

pub returns-then-w-eq0 : goal.returns-then-w-eq0
returns-then-w-eq0 c =
    let a = c.args in
    let l = a.page.now in
    put-none l 0
    ∙ ap (put l 0)
    (sym
    (packed_none low_first a.w a.entries.now (rw c.if-w-eq0.true (mul-zero (length a.entries.now)))))

pub pack_of_width-requires : goal.pack_of_width-requires
pack_of_width-requires c =
    let a = c.args in (
      omega (arith, c.if-w-eq0.false),
      omega arith,
      omega arith,
      c.requires.2,
      omega (arith, bytes-of-both a.w (length a.entries.now)),
    )

pub slice_bounds-pack_chunks-count : goal.slice_bounds-pack_chunks-count
slice_bounds-pack_chunks-count c =
    let a = c.args in
    omega (arith, bytes-of-both a.w (length a.entries.now))

pub slice_bounds-pack_chunks-start : goal.slice_bounds-pack_chunks-start
slice_bounds-pack_chunks-start c =
    let a = c.args in
    omega (arith, bytes-of-both a.w (length a.entries.now))

pub pack_chunks-requires : goal.pack_chunks-requires
pack_chunks-requires c =
    let a = c.args in
    let n = length a.entries.now in (
      omega arith,
      omega arith,
      omega (arith, c.if-w-eq0.false),
      omega (arith, one-mul a.w),
      omega (arith, mul-one (n % 8)),
      c.requires.2,
      rw (mul-one, part_rest, length-drop) (omega (arith, bytes-of-both a.w n)),
    )

pub returns : goal.returns
returns c =
    let a = c.args in
    let xs = a.entries.now in
    let n = length xs in
    let groups = c.pack_of_width in
    let whole : take (8 * (n / 8) + n % 8) xs ≡ xs = take_all (8 * (n / 8) + n % 8) xs (omega arith) in
    laid-behind a.page.now xs a.w (n / 8) (n % 8) (n / 8 * a.w) (omega arith)
    (small_of a.w xs c.requires.2) refl (omega (arith, bytes-of-both a.w n)) groups.ensures
    (rw mul-one at (part_put groups.new.page _ _ (n / 8 * a.w) c.pack_chunks.ensures))
    ∙ ap (λ ys. put a.page.now 0 (packed low_first a.w ys)) whole
