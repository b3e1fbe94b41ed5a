-- `Range::write_packed` meets its contract: the part's entries are the page's from byte `start` on, and bits put
-- in the part from byte i / 8 on are bits put in the bitmap.
use mathlib.Core.Path.{ap, ◌∙◌}
use Prim.Native.Nat.{ℕ, ◌-◌, ◌*◌, ◌/◌, ◌%◌, ◌≤◌}
use native.Mathlib.Nat.{mul-le-mul}
use native.Mathlib.Omega.{arith}
use Rattle.words.specs.Appended.{appended, part_appended}
use Rattle.compare.specs.Range.{ranged}
use Rattle.runs_mark.specs.BodyParts.{part_word}
use borrow.Author.Rules.{rules}
use Rattle.runs_walk.proofs.marking.RangeRunWriting.write_packed.Goals as goal

-- a run's entries take at most 65,536 bytes
few_bits : (m w : ℕ) → m ≤ 16384 → w ≤ 32 → m * w ≤ 524288
few_bits m w h k = mul-le-mul {n₁ = m} {m₁ = w} {n₂ = 16384} {m₂ = 32} h k

pub overflow_mul-m : goal.overflow_mul-m
overflow_mul-m c = omega (arith, few_bits c.args.m c.args.w (search rules) (search rules))

pub overflow_add-m : goal.overflow_add-m
overflow_add-m c = omega (arith, few_bits c.args.m c.args.w (search rules) (search rules))

pub returns : goal.returns
returns c =
    let a = c.args in
    let end = c.min-end.result in
    part_appended a.bitmap.now _ (a.i / 8) (a.i % 8) a.i _ a.m (omega arith) c.mark_packed.ensures
    ∙ ap (λ (x : ℕ). appended a.bitmap.now a.i x a.m)
    (part_word a.page.now a.start (end - a.start) a.w a.m (ranged a.self) (omega arith))
