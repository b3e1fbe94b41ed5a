-- `runs_read::plain::plain_at` meets its contract: four bytes stand behind the header, and the part that is lent on
-- is the page's rest from there.
use mathlib.Core.Path.{◌≡◌, sym, ap, ◌∙◌}
use mathlib.Core.List.{List}
use Prim.Native.Nat.{ℕ, ◌+◌, ◌/◌, ◌≤◌, ◌<◌}
use native.Mathlib.Omega.{arith}
use lib.ListN.{length}
use borrow.Author.Rules.{rules}
use borrow.Author.Tests.{eq-eqb, ne_eqb}
use Rattle.rules.specs.Runs.{headed}
use Rattle.rules.specs.declared.Number.TheVariants.{Read}
use Rattle.rules.specs.Runs.{Run}
use Rattle.rules.specs.Runs.Run.{Refused}
use Rattle.varints.specs.Places.{next-within}
use Rattle.words.specs.Puts.{part_rest}
use Rattle.runs_read.specs.Headers.{not_read, plain_header, unread, whole-header}
use Rattle.runs_read.proofs.plain.plain_at.Goals as goal

pub returns-in_default : goal.returns-in_default
returns-in_default c =
    let n = c.header_at-header in
    ap Refused (c.refusal_of.ensures c.in_default.not-Read) ∙ unread _ _ _ n.result (not_read _ c.in_default.not-Read)
    ∙ ap (headed _ _ _) n.ensures

-- a run by the header that was read is the run by the header that stands there
by_header : (w left : ℕ) (page : List ℕ) (at : ℕ) {h next : ℕ} → plain_header page at ≡ Read h next → (r : Run)
    → r ≡ headed w left page (Read h next) → r ≡ headed w left page (plain_header page at)
by_header w left page at read r e = e ∙ ap (headed w left page) (sym read)

-- its end, and the bytes behind it
behind : (page : List ℕ) (at : ℕ) {h next : ℕ} → plain_header page at ≡ Read h next
    → (at < next) × (next + 4 ≤ length page)
behind page at {h} {next} read =
    let whole = whole-header page at read in
    ((next-within 32 page at h next whole.0).2, whole.1)

pub returns-then-half-eq0 : goal.returns-then-half-eq0
returns-then-half-eq0 c =
    by_header _ _ _ _ (sym c.header_at-header.ensures ∙ c.in-Read.is) _
    (rw (eq-eqb (c.in-Read.h / 2) 0 (omega arith)))

pub slice_bounds-repeated_at-count : goal.slice_bounds-repeated_at-count
slice_bounds-repeated_at-count c =
    omega (arith, behind _ _ (sym c.header_at-header.ensures ∙ c.in-Read.is))

pub slice_bounds-repeated_at-start : goal.slice_bounds-repeated_at-start
slice_bounds-repeated_at-start c =
    omega (arith, behind _ _ (sym c.header_at-header.ensures ∙ c.in-Read.is))

pub repeated_at-requires : goal.repeated_at-requires
repeated_at-requires c =
    let room = (behind _ _ (sym c.header_at-header.ensures ∙ c.in-Read.is)).1 in search rules

pub returns-then-h-eq0 : goal.returns-then-h-eq0
returns-then-h-eq0 c =
    let page = c.args.page.now in
    by_header _ _ _ _ (sym c.header_at-header.ensures ∙ c.in-Read.is) _
    (rw (ne_eqb (c.in-Read.h / 2) 0 (λ none. omega arith), eq-eqb _ _ c.if-h-eq0.true)
    (c.repeated_at.ensures page (sym (part_rest page c.in-Read.next))))

pub slice_bounds-packed_at-count : goal.slice_bounds-packed_at-count
slice_bounds-packed_at-count c = omega (arith, behind _ _ (sym c.header_at-header.ensures ∙ c.in-Read.is))

pub slice_bounds-packed_at-start : goal.slice_bounds-packed_at-start
slice_bounds-packed_at-start c = omega (arith, behind _ _ (sym c.header_at-header.ensures ∙ c.in-Read.is))

pub returns-else-h-eq0 : goal.returns-else-h-eq0
returns-else-h-eq0 c =
    let page = c.args.page.now in
    by_header _ _ _ _ (sym c.header_at-header.ensures ∙ c.in-Read.is) _
    (rw (ne_eqb (c.in-Read.h / 2) 0 (λ none. omega arith), ne_eqb _ _ c.if-h-eq0.false)
    (c.from.ensures ∙ c.packed_at.ensures page (sym (part_rest page c.in-Read.next))))
