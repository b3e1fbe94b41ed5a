-- `delta_octets::testing::passes_above` meets its contract: what is at most span above the low end is inside the
-- range.
use Rattle.std.proofs.Common.{◌≡◌, ◌+◌, ◌%◌, ◌^◌, not, leb, refl, ap, arith, le-ltb, lt-ltb}
use Rattle.compare.specs.Range.{inside, ranged}
use Rattle.compare.specs.Inside.{by_difference}
use Rattle.delta_octets.proofs.testing.passes_above.Goals as goal

pub returns-then-range-gt0 : goal.returns-then-range-gt0
unfolding ranged
returns-then-range-gt0 c =
    let within : let a = c.args in
    leb a.y a.range.span
    ≡ inside a.range.low (a.range.low + a.range.span) ((a.y + a.range.low) % 2 ^ 32) = let a = c.args in
    by_difference a.range.low a.range.span ((a.y + a.range.low) % 2 ^ 32) a.y (omega arith)
    (omega arith) (omega arith) refl in
    rw (lt-ltb _ _ c.if-range-gt0.true) (ap not (within))

pub returns-else-range-gt0 : goal.returns-else-range-gt0
unfolding ranged
returns-else-range-gt0 c =
    let within : let a = c.args in
    leb a.y a.range.span
    ≡ inside a.range.low (a.range.low + a.range.span) ((a.y + a.range.low) % 2 ^ 32) = let a = c.args in
    by_difference a.range.low a.range.span ((a.y + a.range.low) % 2 ^ 32) a.y (omega arith)
    (omega arith) (omega arith) refl in
    rw (le-ltb _ _ c.if-range-gt0.false) (within)
