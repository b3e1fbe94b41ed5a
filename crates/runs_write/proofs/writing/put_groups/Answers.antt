-- `runs_write::writing::put_groups` meets its contract: the entries there are, and bytes of 0 behind them.
use Prim.Native.Nat.{ℕ, ◌*◌, ◌≤◌}
use native.Mathlib.Nat.{mul-le-mul}
use native.Mathlib.Omega.{arith}
use lib.ListN.{drop, length-drop}
use Rattle.words.specs.Joined.{small-drop}
use Rattle.packed_entries.specs.NoneTooLarge.{small_of, large_part}
use Rattle.packed_entries.specs.Filled.{whole-groups, put-filled}
use Rattle.runs_read.specs.Parts.{body-fits}
use Rattle.runs_write.proofs.writing.put_groups.Goals as goal

-- the entries' bits lie in the groups' bytes
bits : (w groups m : ℕ) → w ≤ 32 → 8 * groups ≤ 16391 → m ≤ 8 * groups
    → (m * w ≤ 8 * (w * groups)) × (w * groups ≤ 65536)
bits w groups m narrow few none_more =
    (body-fits w groups m (omega arith), mul-le-mul {n₁ = w} {m₁ = groups} {n₂ = 32} {m₂ = 2048} narrow (omega arith))

pub overflow_mul-laid : goal.overflow_mul-laid
overflow_mul-laid c =
    omega (arith, bits c.args.w c.args.groups c.min-m.result c.requires.0 c.requires.1 (omega arith))

pub overflow_add-laid : goal.overflow_add-laid
overflow_add-laid c =
    omega (arith, bits c.args.w c.args.groups c.min-m.result c.requires.0 c.requires.1 (omega arith))

pub pack_part-requires : goal.pack_part-requires
pack_part-requires c =
    let inside = bits c.args.w c.args.groups c.min-m.result c.requires.0 c.requires.1 (omega arith) in (
      omega arith,
      omega arith,
      omega arith,
      large_part c.args.w c.min-m.result c.args.p c.args.entries.now c.requires.3,
      omega arith,
    )

pub overflow_add-from : goal.overflow_add-from
overflow_add-from c =
    omega (arith, bits c.args.w c.args.groups c.min-m.result c.requires.0 c.requires.1 (omega arith))

pub overflow_sub-w : goal.overflow_sub-w
overflow_sub-w c =
    omega (arith, bits c.args.w c.args.groups c.min-m.result c.requires.0 c.requires.1 (omega arith))

pub store_low-requires : goal.store_low-requires
store_low-requires c =
    let inside = bits c.args.w c.args.groups c.min-m.result c.requires.0 c.requires.1 (omega arith) in omega arith

pub returns : goal.returns
returns c =
    let a = c.args in
    let m = c.min-m.result in
    let rest = drop a.p a.entries.now in
    let small = small-drop a.w a.p a.entries.now (small_of a.w a.entries.now c.requires.3) in
    put-filled a.page.now rest a.w (8 * a.groups) m a.from (a.w * a.groups) small
    (rw length-drop c.min-m.ensures) (whole-groups a.w a.groups) c.requires.4
    c.pack_part.ensures c.store_low.ensures
