-- `horizontal_scan::judging::judge_page` meets its contract: each test is one of the listed faults.
use Rattle.std.proofs.Common.{length}
use Prim.Native.Nat.{◌<◌, ◌≤◌}
use native.Mathlib.Omega.{arith}
use borrow.Author.Tests.{lt-ltb, le-ltb}
use Rattle.rules.specs.Bits.Order.{low_first}
use Rattle.rules.specs.Answer.{◌then◌}
use Rattle.rules.specs.Horizontal.{page_bytes, page_fault, unused}
use Rattle.horizontal_scan.specs.GoodPage.{bits_le}
use Rattle.horizontal_scan.proofs.judging.judge_page.Goals as goal

pub overflow_mul-bits : goal.overflow_mul-bits
overflow_mul-bits c = let a = c.args in omega (arith, bits_le a.width a.n (omega arith) (omega arith))

pub overflow_add-bytes : goal.overflow_add-bytes
overflow_add-bytes c = let a = c.args in omega (arith, bits_le a.width a.n (omega arith) (omega arith))

pub returns-then-page-bytes : goal.returns-then-page-bytes
unfolding page_fault ◌then◌
returns-then-page-bytes c =
    let a = c.args in
    rw (lt-ltb (length a.page.now) (page_bytes a.width a.n) (omega arith))

pub returns-then-bytes-page : goal.returns-then-bytes-page
unfolding page_fault ◌then◌
returns-then-bytes-page c = rw (le-ltb _ _ c.if-page-bytes.false, lt-ltb _ _ c.if-bytes-page.true)

pub overflow_mul-bytes : goal.overflow_mul-bytes
overflow_mul-bytes c =
    let a = c.args in omega (arith, bits_le a.width a.n (omega arith) (omega arith))

pub returns-then-entry_any-gt0 : goal.returns-then-entry_any-gt0
unfolding page_fault ◌then◌
returns-then-entry_any-gt0 c =
    let a = c.args in
    let some : 0 < unused low_first a.page.now a.width a.n =
    rw (← c.entry_any.ensures) (omega arith) in
    rw (le-ltb _ _ c.if-page-bytes.false, le-ltb _ _ c.if-bytes-page.false, lt-ltb _ _ some)

pub returns-else-entry_any-gt0 : goal.returns-else-entry_any-gt0
unfolding page_fault ◌then◌
returns-else-entry_any-gt0 c =
    let a = c.args in
    let none : unused low_first a.page.now a.width a.n ≤ 0 =
    rw (← c.entry_any.ensures) (omega arith) in
    rw (le-ltb _ _ c.if-page-bytes.false, le-ltb _ _ c.if-bytes-page.false, le-ltb _ _ none)
