-- `varints::reading::number_at` meets its contract: the sum below its weight is what the bytes passed spell, and
-- the rest is read above it.
use mathlib.Core.Path.{◌≡◌}
use Prim.Native.Nat.{◌+◌, ◌-◌, ◌%◌, ◌^◌}
use native.Mathlib.Omega.{arith}
use lib.ListN.{drop}
use borrow.Author.Tests.{lt-ltb, le-ltb}
use borrow.Author.Rules.{rules}
use Rattle.rules.specs.Varint.{uleb, number_at}
use Rattle.varints.specs.ByteByByte.{scaled-one, scaled-below, ended, step, final, digit, room}
use Rattle.varints.proofs.reading.number_at.Goals as goal

pub loop-passed-init : goal.loop-passed-init
unfolding number_at
loop-passed-init c =
    (scaled-one c.args.at (uleb 16 4 (drop c.args.at c.args.page.now)), search rules, search rules)

pub returns-in_default : goal.returns-in_default
returns-in_default c =
    let l = c.loop-passed in rw (l.invariant.0, ended 16 (4 - l.passed) _ l.i c.in_default.ensures.lookup.3)

pub returns-then-b-lt128 : goal.returns-then-b-lt128
returns-then-b-lt128 c =
    let l = c.loop-passed in
    let found = c.in-Some.ensures.lookup in
    rw (
      l.invariant.0,
      step 16 (4 - l.passed) _ l.i (omega arith) found.3.0,
      ← (found.4 (omega arith) 0),
      lt-ltb _ 128 c.if-b-lt128.true,
    )

pub loop-passed-preserved : goal.loop-passed-preserved
loop-passed-preserved c =
    let l = c.loop-passed in
    let found = c.in-Some.ensures.lookup in
    let b = c.in-Some.byte.now in
    let next : 4 - (l.passed + 1) ≡ 4 - l.passed - 1 = omega arith in
    let r = room l.scale (4 - l.passed) (2 ^ 28) (search rules) l.invariant.2 in
    rw next (
      rw (
        l.invariant.0,
        step 16 (4 - l.passed) _ l.i (omega arith) found.3.0,
        ← (found.4 (omega arith) 0),
        le-ltb _ 128 c.if-b-lt128.false,
        scaled-below,
      ),
      omega (arith, digit l.scale (b % 128) 128 (omega arith)),
      r.1,
    )

pub returns-in-None : goal.returns-in-None
returns-in-None c =
    let l = c.loop-passed in rw (l.invariant.0, ended 16 (4 - l.passed) _ l.i c.in-None.ensures.lookup.3)

pub returns-in-Some-16-to-255 : goal.returns-in-Some-16-to-255
returns-in-Some-16-to-255 c =
    let l = c.loop-passed in
    let found = c.in-Some-16-to-255.ensures.lookup in
    let z : 4 - l.passed ≡ 0 = omega arith in
    rw (l.invariant.0, z, final 16 _ l.i found.3.0, ← (found.4 (omega arith) 0), le-ltb c.in-Some-16-to-255.field-0.now 16 (omega arith))

pub returns-in-Some-get : goal.returns-in-Some-get
returns-in-Some-get c =
    let l = c.loop-passed in
    let found = c.in-Some-get.ensures.lookup in
    let z : 4 - l.passed ≡ 0 = omega arith in
    rw (l.invariant.0, z, final 16 _ l.i found.3.0, ← (found.4 (omega arith) 0), lt-ltb c.in-Some-get.fifth.now 16 (omega arith))
