-- `runs_read::plain::header_at` meets its contract: too few bytes, a byte of which more follows, or the whole number.
use mathlib.Core.Path.{sym}
use native.Mathlib.Omega.{arith}
use lib.ListN.{get_or}
use borrow.Author.Tests.{lt-ltb, le-ltb}
use Rattle.runs_read.specs.Headers.{too_few, byte_there}
use Rattle.runs_read.proofs.plain.header_at.Goals as goal
use Rattle.runs_read.proofs.plain.header_at.Goals.{then-page-le4-via-then-page-le4, then-page-le4-via-else-page-le4+then-page-at}

pub returns-then-page-le4 : goal.returns-then-page-le4
returns-then-page-le4 c =
    let a = c.args in
    elim c.then-page-le4.branch [
      | then-page-le4-via-then-page-le4 w ↦ sym (too_few a.page.now a.at (omega arith))
      | then-page-le4-via-else-page-le4+then-page-at w ↦ sym (too_few a.page.now a.at (omega arith))
    ]

pub returns-then-header-ge128 : goal.returns-then-header-ge128
returns-then-header-ge128 c =
    let a = c.args in
    let byte = get_or a.page.now a.at 0 in
    rw (byte_there a.page.now a.at (omega arith), le-ltb byte 128 (omega arith))

pub returns : goal.returns
returns c =
    let a = c.args in
    let byte = get_or a.page.now a.at 0 in
    rw (byte_there a.page.now a.at (omega arith), lt-ltb byte 128 (omega arith))
