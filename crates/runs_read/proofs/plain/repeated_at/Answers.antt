-- `runs_read::plain::repeated_at` meets its contract: of four bytes that were read the remainder keeps the value's,
-- and its tests are those of the rule.
use mathlib.Core.Path.{◌≡◌, ap, ◌∙◌}
use Prim.Native.Nat.{ℕ, ◌+◌, ◌-◌, ◌*◌, ◌%◌, ◌^◌, ◌<◌}
use native.Mathlib.Nat.{lt_of_lt_of_le}
use native.Mathlib.Omega.{arith}
use lib.ListN.{length, take}
use lib.Pow.{pow_mono, pow_pos}
use borrow.Author.Tests.{lt-ltb, le-ltb}
use Rattle.rules.specs.Bits.{ceil, number}
use Rattle.rules.specs.Runs.{repeated_at}
use Rattle.words.specs.Bits.{one_shl}
use Rattle.runs_read.specs.Parts.{part_size, first-bytes}
use Rattle.runs_read.proofs.plain.repeated_at.Goals as goal

pub returns-then-left-count : goal.returns-then-left-count
unfolding repeated_at
returns-then-left-count c page e = let a = c.args in rw (lt-ltb a.left a.count (omega arith))

pub nonzero_rem-value : goal.nonzero_rem-value
nonzero_rem-value c =
    let k = ceil c.args.w 8 in
    rw (one_shl 64 (8 * k) (omega arith)) (pow_pos (8 * k))

pub returns-then-w-value : goal.returns-then-w-value
unfolding repeated_at
returns-then-w-value c page e =
    let value : ℕ = c.load4.result % (1 * 2 ^ (8 * ceil c.args.w 8) % 2 ^ 64) in
    let body : let a = c.args in value ≡ number (take (ceil a.w 8) a.part.now) = let k = c in
    let a = k.args in
    let size = ceil a.w 8 in
    let four : 4 ≡ size + (4 - size) = omega arith in
    rw (one_shl 64 (8 * size) (omega arith), c.load4.ensures)
    (ap (λ (n : ℕ). number (take n a.part.now) % 2 ^ (8 * size)) four
    ∙ first-bytes a.part.now size (4 - size) (λ j. (k.type_inv.part j).fits)) in
    let v = c in
    let a = v.args in
    let shl = one_shl 64 a.w (omega arith) in
    rw (
      part_size page a.at e,
      e,
      ← (body),
      le-ltb a.left a.count (omega arith),
      le-ltb (length a.part.now) (ceil a.w 8) (omega arith),
      le-ltb (value) (2 ^ a.w) (omega arith),
    )

pub overflow_cast-result : goal.overflow_cast-result
overflow_cast-result c =
    let value : ℕ = c.load4.result % (1 * 2 ^ (8 * ceil c.args.w 8) % 2 ^ 64) in
    let small : value < 2 ^ c.args.w = let shl = one_shl 64 c.args.w (omega arith) in omega arith in
    let w = c.args.w in
    record { fits = lt_of_lt_of_le (small) (pow_mono {i = w} {j = 32} (omega arith)) }

pub returns : goal.returns
unfolding repeated_at
returns c page e =
    let value : ℕ = c.load4.result % (1 * 2 ^ (8 * ceil c.args.w 8) % 2 ^ 64) in
    let body : let a = c.args in value ≡ number (take (ceil a.w 8) a.part.now) = let k = c in
    let a = k.args in
    let size = ceil a.w 8 in
    let four : 4 ≡ size + (4 - size) = omega arith in
    rw (one_shl 64 (8 * size) (omega arith), c.load4.ensures)
    (ap (λ (n : ℕ). number (take n a.part.now) % 2 ^ (8 * size)) four
    ∙ first-bytes a.part.now size (4 - size) (λ j. (k.type_inv.part j).fits)) in
    let small : value < 2 ^ c.args.w = let shl = one_shl 64 c.args.w (omega arith) in omega arith in
    let v = c in
    let a = v.args in
    rw (
      part_size page a.at e,
      e,
      ← (body),
      le-ltb a.left a.count (omega arith),
      le-ltb (length a.part.now) (ceil a.w 8) (omega arith),
      lt-ltb (value) (2 ^ a.w) (small),
    )
