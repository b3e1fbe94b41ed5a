-- `dictionary_indexes::index_page::judge_page` meets its contract: the width byte first, and then the stream behind
-- it, whose indexes are looked at where one can be too large.
use mathlib.Core.Path.{sym, ap, ◌∙◌}
use mathlib.Core.List.{List}
use Prim.Native.Nat.{ℕ, ◌^◌, ◌≤◌, ◌<◌}
use native.Mathlib.Omega.{arith}
use lib.Dec.{leb}
use lib.ListN.{length}
use borrow.Author.Tests.{lt-ltb, le-ltb}
use Rattle.rules.specs.Answer.{faulty, ◌then◌}
use Rattle.rules.specs.Bits.{some_below}
use Rattle.rules.specs.Runs.{read, stream_fault, stream_entry}
use Rattle.answers.specs.Laws.{then_found, then_last}
use Rattle.words.specs.Bits.{one_shl}
use Rattle.words.specs.Puts.{part_rest}
use Rattle.dictionary_indexes.specs.IndexPage.{width_of, indexes-none, indexes-some}
use Rattle.dictionary_indexes.specs.IndexFaults.{none-large, page-judged}
use Rattle.dictionary_indexes.proofs.index_page.judge_page.Goals as goal

pub returns-then-page-eq0 : goal.returns-then-page-eq0
returns-then-page-eq0 c =
    let a = c.args in
    sym (then_found _ _ 5 (ap stream_fault (indexes-none a.n a.page.now c.if-page-eq0.true)) (λ z. omega arith))

pub overflow_cast-width : goal.overflow_cast-width
overflow_cast-width c = omega (arith, c.type_inv.page 0)

pub returns-then-width-gt-MAX_WIDTH : goal.returns-then-width-gt-MAX_WIDTH
returns-then-width-gt-MAX_WIDTH c =
    let a = c.args in
    let some : 0 < length a.page.now = omega arith in
    sym
    (then_found _ _ 1
    (ap stream_fault (indexes-some a.n a.page.now some)
    ∙ rw (lt-ltb 32 (width_of a.page.now) c.if-width-gt-MAX_WIDTH.true)) (λ z. omega arith))

pub returns-then-width-limit : goal.returns-then-width-limit
returns-then-width-limit c =
    let a = c.args in
    let w = width_of a.page.now in
    let some : 0 < length a.page.now = omega arith in
    let all : 2 ^ w ≤ a.limit = rw (one_shl 64 w (omega arith)) at c.if-width-limit.true in
    rw (part_rest a.page.now 1) at c.judge_stream.ensures
    ∙ sym
    (then_last _ _ (none-large a.limit a.n a.page.now all)
    ∙ ap stream_fault (indexes-some a.n a.page.now some) ∙ rw (le-ltb 32 w c.if-width-gt-MAX_WIDTH.false))

pub returns : goal.returns
returns c =
    let a = c.args in
    let w = width_of a.page.now in
    let some : 0 < length a.page.now = omega arith in
    c.judge_runs.ensures
    ∙ ap
    (λ (l : List ℕ). stream_fault (read w a.n l) then faulty
    (some_below a.n (λ i. leb a.limit (stream_entry w (read w a.n l) i))) 15)
    (part_rest a.page.now 1)
    ∙ sym (page-judged a.limit a.n a.page.now some c.if-width-gt-MAX_WIDTH.false)
