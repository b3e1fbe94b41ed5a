-- `vertical_scan::judging::judge_page` meets its contract: each test is one of the listed faults.
use mathlib.Core.Path.{sym, ap, ◌∙◌}
use Rattle.std.specs.Prelude.{◌≢◌}
use Prim.Native.Nat.{ℕ, ◌+◌, ◌*◌, ◌/◌, ◌%◌, ◌^◌, ◌≤◌}
use native.Mathlib.Omega.{arith}
use lib.Dec.{ltb}
use borrow.Author.Tests.{lt-ltb, le-ltb}
use Rattle.rules.specs.Answer.{◌then◌}
use Rattle.rules.specs.Vertical.{page_fault}
use Rattle.words.specs.Entries.{place-within}
use Rattle.vertical_scan.specs.UnusedLanes.{unused-rest, unused-none}
use Rattle.vertical_scan.specs.GoodColumn.{words_le}
use Rattle.vertical_scan.proofs.judging.judge_page.Goals as goal

pub overflow_mul-need : goal.overflow_mul-need
overflow_mul-need c = let a = c.args in omega (arith, words_le a.width a.n (omega arith) (omega arith))

pub returns-then-words-need : goal.returns-then-words-need
unfolding page_fault ◌then◌
returns-then-words-need c = rw (lt-ltb _ _ c.if-words-need.true)

pub returns-then-need-words : goal.returns-then-need-words
unfolding page_fault ◌then◌
returns-then-need-words c = rw (le-ltb _ _ c.if-words-need.false, lt-ltb _ _ c.if-need-words.true)

pub returns-then-rest-eq0 : goal.returns-then-rest-eq0
unfolding page_fault ◌then◌
returns-then-rest-eq0 c =
    let a = c.args in
    rw (
      le-ltb _ _ c.if-words-need.false,
      le-ltb _ _ c.if-need-words.false,
      unused-none a.words.now a.width a.n c.if-rest-eq0.true,
    )

-- the group that n ends in is the last one
last : (width n : ℕ) → n % 64 ≢ 0 → n / 64 * width + width ≤ (n + 63) / 64 * width
last width n rest = place-within width (n / 64) ((n + 63) / 64) (omega arith)

pub overflow_mul-n : goal.overflow_mul-n
overflow_mul-n c =
    let a = c.args in
    omega (arith, last a.width a.n (omega arith), words_le a.width a.n (omega arith) (omega arith))

pub all_planes-requires : goal.all_planes-requires
all_planes-requires c = omega (arith, last c.args.width c.args.n (omega arith))

pub returns-then-all_planes-rest-gt0 : goal.returns-then-all_planes-rest-gt0
unfolding page_fault ◌then◌
returns-then-all_planes-rest-gt0 c =
    let a = c.args in
    let rest =
    ap (λ (x : ℕ). ltb 0 (x / 2 ^ (a.n % 64))) c.all_planes.ensures
    ∙ unused-rest a.words.now a.width a.n (λ k. (c.type_inv.words k).fits) c.if-rest-eq0.false in
    rw (
      le-ltb _ _ c.if-words-need.false,
      le-ltb _ _ c.if-need-words.false,
      sym rest ∙ lt-ltb _ _ c.if-all_planes-rest-gt0.true,
    )

pub returns-else-all_planes-rest-gt0 : goal.returns-else-all_planes-rest-gt0
unfolding page_fault ◌then◌
returns-else-all_planes-rest-gt0 c =
    let a = c.args in
    let rest =
    ap (λ (x : ℕ). ltb 0 (x / 2 ^ (a.n % 64))) c.all_planes.ensures
    ∙ unused-rest a.words.now a.width a.n (λ k. (c.type_inv.words k).fits) c.if-rest-eq0.false in
    rw (
      le-ltb _ _ c.if-words-need.false,
      le-ltb _ _ c.if-need-words.false,
      sym rest ∙ le-ltb _ _ c.if-all_planes-rest-gt0.false,
    )
