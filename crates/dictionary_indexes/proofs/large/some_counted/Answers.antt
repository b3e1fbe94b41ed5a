-- `dictionary_indexes::large::some_counted` meets its contract: those too large are the entries outside the range
-- below the limit, and some are if one or more are counted.
use mathlib.Core.Path.{ap, ◌∙◌}
use mathlib.Core.Bool.{true}
use Prim.Native.Nat.{ℕ, ◌-◌, ◌*◌, ◌≤◌}
use native.Mathlib.Nat.{mul-le-mul}
use native.Mathlib.Omega.{arith}
use lib.Dec.{ltb}
use lib.ListN.{take, drop}
use borrow.Author.Rules.{rules}
use Rattle.rules.specs.Bits.{ceil, put}
use Rattle.bitmaps.specs.Counts.{count_ones}
use Rattle.compare.specs.Range.{ranged}
use Rattle.compare.specs.Ranges.{to_whole, usable}
use Rattle.compare.specs.declared.ranges.Range.{Range}
use Rattle.packed_kernels.specs.Selected.{selected}
use Rattle.dictionary_indexes.specs.Large.{some-selected}
use Rattle.dictionary_indexes.proofs.large.some_counted.Goals as goal

-- a run's entries take at most 65,536 bytes
few_bits : (m w : ℕ) → m ≤ 16384 → w ≤ 32 → m * w ≤ 524288
few_bits m w h k = mul-le-mul {n₁ = m} {m₁ = w} {n₂ = 16384} {m₂ = 32} h k

pub overflow_mul-m : goal.overflow_mul-m
overflow_mul-m c =
    omega (arith, few_bits c.args.m c.args.w (search rules) (search rules))

pub overflow_add-m : goal.overflow_add-m
overflow_add-m c =
    omega (arith, few_bits c.args.m c.args.w (search rules) (search rules))

pub select-requires : goal.select-requires
select-requires c =
    let whole = to_whole 0 c.args.limit true (omega arith) in
    (search rules, search rules, search rules, search rules, search rules, rw c.range_to.ensures (usable whole))

pub returns : goal.returns
returns c =
    let end = c.min-end.result in
    let a = c.args in
    let part = take (end - a.start) (drop a.start a.page.now) in
    ap (λ (x : ℕ). ltb 0 x) c.counted.ensures
    ∙ ap (λ l. ltb 0 (count_ones (take (ceil a.m 8) l))) c.select.ensures
    ∙ ap
    (λ (x : Range). ltb 0
    (count_ones (take (ceil a.m 8) (put a.scratch.now 0 (selected part a.m a.w (ranged x))))))
    c.range_to.ensures
    ∙ some-selected a.scratch.now a.page.now a.start (end - a.start) a.w a.m a.limit
    (omega arith) (search rules)
