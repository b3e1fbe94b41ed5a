-- `runs_write::sizes::run_size` meets its contract: the header's size and the body's, for either kind.
use mathlib.Core.Path.{◌≡◌, ap}
use Prim.Native.Nat.{ℕ, ◌+◌, ◌*◌, ◌≤◌}
use native.Mathlib.Nat.{mul-le-mul}
use native.Mathlib.Omega.{arith}
use Rattle.rules.specs.RunWriter.{taken}
use Rattle.varints.specs.Shortness.{shortest-size}
use Rattle.runs_write.specs.Sizes.{run_size}
use Rattle.runs_write.proofs.sizes.run_size.Goals as goal

body_below : (w groups : ℕ) → w ≤ 32 → groups ≤ 2048 → w * groups ≤ 65536
body_below w groups narrow few = mul-le-mul {n₁ = w} {m₁ = groups} {n₂ = 32} {m₂ = 2048} narrow few

pub overflow_mul-count : goal.overflow_mul-count
overflow_mul-count c =
    let equal-entries : taken c.args.next ≡ c.in-Repeats.count = ap taken c.in-Repeats.is in
    omega (arith, equal-entries)

pub overflow_cast-count : goal.overflow_cast-count
overflow_cast-count c =
    let equal-entries : taken c.args.next ≡ c.in-Repeats.count = ap taken c.in-Repeats.is in
    omega (arith, equal-entries)

pub overflow_add-result-in-Repeats : goal.overflow_add-result-in-Repeats
overflow_add-result-in-Repeats c =
    let equal-entries : taken c.args.next ≡ c.in-Repeats.count = ap taken c.in-Repeats.is in
    omega (
      arith,
      equal-entries,
      (shortest-size 32 (2 * c.in-Repeats.count) (omega (arith, equal-entries))).1,
    )

pub overflow_mul-groups : goal.overflow_mul-groups
overflow_mul-groups c =
    let in-groups : taken c.args.next ≡ 8 * c.in-Packs.groups = ap taken c.in-Packs.is in
    omega (arith, in-groups)

pub overflow_add-groups : goal.overflow_add-groups
overflow_add-groups c =
    let in-groups : taken c.args.next ≡ 8 * c.in-Packs.groups = ap taken c.in-Packs.is in
    omega (arith, in-groups)

pub overflow_cast-groups : goal.overflow_cast-groups
overflow_cast-groups c =
    let in-groups : taken c.args.next ≡ 8 * c.in-Packs.groups = ap taken c.in-Packs.is in
    omega (arith, in-groups)

pub overflow_mul-result : goal.overflow_mul-result
overflow_mul-result c =
    let in-groups : taken c.args.next ≡ 8 * c.in-Packs.groups = ap taken c.in-Packs.is in
    let body = body_below c.args.w c.in-Packs.groups c.requires.0 (omega (arith, in-groups)) in
    omega (arith, in-groups, body)

pub overflow_add-result-in-Packs : goal.overflow_add-result-in-Packs
overflow_add-result-in-Packs c =
    let in-groups : taken c.args.next ≡ 8 * c.in-Packs.groups = ap taken c.in-Packs.is in
    let body = body_below c.args.w c.in-Packs.groups c.requires.0 (omega (arith, in-groups)) in
    omega (
      arith,
      body,
      (shortest-size 32 (2 * c.in-Packs.groups + 1) (omega (arith, in-groups))).1,
    )

pub returns-in-Repeats : goal.returns-in-Repeats
returns-in-Repeats c =
    omega (arith, ap (run_size c.args.w) c.in-Repeats.is)

pub returns-in-Packs : goal.returns-in-Packs
returns-in-Packs c =
    omega (arith, ap (run_size c.args.w) c.in-Packs.is)
