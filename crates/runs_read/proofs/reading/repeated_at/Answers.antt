-- `runs_read::reading::repeated_at` meets its contract: its fault is that of the rule, on the page's rest; a value
-- below 2^w fits.
use Prim.Native.Nat.{◌^◌, ◌≤◌, ◌<◌}
use native.Mathlib.Nat.{lt_of_lt_of_le}
use native.Mathlib.Omega.{arith}
use lib.Dec.{ltb}
use lib.ListN.{length}
use lib.Pow.{pow_mono}
use borrow.Author.Tests.{ltb-true, ltb-false}
use Rattle.rules.specs.Bits.{ceil}
use Rattle.rules.specs.Runs.{repeated_at}
use mathlib.Core.Path.{refl}
use Rattle.answers.specs.Laws.{code_some, passed_up}
use Rattle.runs_read.specs.Parts.{part_size}
use Rattle.runs_read.specs.Bodies.{faulty-body, good-body, passed}
use Rattle.runs_read.proofs.reading.repeated_at.Goals as goal
use Rattle.runs_read.proofs.reading.repeated_at.Goals.{In_ok-judge_repeated}

pub returns-in_err-judge_repeated : goal.returns-in_err-judge_repeated
unfolding repeated_at
returns-in_err-judge_repeated c page e =
    let v = c in
    let a = v.args in
    rw (passed_up _ _ c.from_residual.ensures, part_size page a.at e, e, ← v.value_of-value.ensures)
    (faulty-body (ltb a.left a.count) (ltb (length a.part.now) (ceil a.w 8))
    (ltb v.value_of-value.result (2 ^ a.w)) _ c.in_err-judge_repeated.ensures (code_some _))

-- without a fault the value is there, and below 2^w
there : (c : In_ok-judge_repeated)
    → let v = c in
    let a = v.args in
    (ceil a.w 8 ≤ length a.part.now) × (v.value_of-value.result < 2 ^ a.w)
there c =
    let v = c in
    let a = v.args in
    let tests =
    passed (ltb a.left a.count) (ltb (length a.part.now) (ceil a.w 8))
    (ltb v.value_of-value.result (2 ^ a.w)) c.in_ok-judge_repeated.ensures refl in
    (ltb-false _ _ tests.1, ltb-true _ _ tests.2)

pub overflow_cast-result : goal.overflow_cast-result
overflow_cast-result c =
    let w = c.args.w in
    record { fits = lt_of_lt_of_le (there c).1 (pow_mono {i = w} {j = 32} (omega arith)) }

pub overflow_add-result : goal.overflow_add-result
overflow_add-result c = let room = (there c).0 in omega arith

pub returns : goal.returns
unfolding repeated_at
returns c page e =
    let v = c in
    let a = v.args in
    rw (part_size page a.at e, e, ← v.value_of-value.ensures)
    (good-body (ltb a.left a.count) (ltb (length a.part.now) (ceil a.w 8))
    (ltb v.value_of-value.result (2 ^ a.w)) _ c.in_ok-judge_repeated.ensures refl)
