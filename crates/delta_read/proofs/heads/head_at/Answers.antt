-- `delta_read::heads::head_at` meets its contract: field by field, each behind those that were read.
use Rattle.std.specs.Prelude.{◌≡◌, List, ℕ, cond, eqb}
use Rattle.std.proofs.Common.{sym, eq-eqb, ne_eqb}
use Rattle.rules.specs.Varint.{number_at, reading}
use Rattle.rules.specs.Delta.{shaped, head_at}
use Rattle.rules.specs.declared.Number.TheVariants.{Read}
use Rattle.rules.specs.Delta.{Head}
use Rattle.rules.specs.Delta.Head.{Opened, Unopened}
use Rattle.varints.specs.Fields.{by_read}
use Rattle.delta_read.proofs.NotRead.{not_read}
use Rattle.delta_read.proofs.heads.head_at.Goals as goal

abbrev judged : ℕ → ℕ → ℕ → ℕ → ℕ → ℕ → Head
judged n size minis count first next =
    cond (shaped size minis) (cond (eqb count n) (Opened size minis first next) (Unopened 13)) (Unopened 12)

abbrev fromFirst : ℕ → List ℕ → ℕ → ℕ → ℕ → ℕ → Head
fromFirst n page size minis count r =
    reading Unopened (number_at 32 page r) (λ first next. judged n size minis count first next)

abbrev fromCount : ℕ → List ℕ → ℕ → ℕ → ℕ → Head
fromCount n page size minis q =
    reading Unopened (number_at 32 page q) (λ count r. fromFirst n page size minis count r)

abbrev fromMinis : ℕ → List ℕ → ℕ → ℕ → Head
fromMinis n page size p = reading Unopened (number_at 32 page p) (λ minis q. fromCount n page size minis q)

-- a field was read, and what is given from there on is known
module _ (n : ℕ) (page : List ℕ) {size p : ℕ} (e : Read size p ≡ number_at 32 page 0) where
  on-size : {r : Head} → r ≡ fromMinis n page size p → r ≡ head_at 32 n page
  unfolding head_at
  on-size = by_read Unopened _ (sym e)

  module _ {minis q : ℕ} (e₁ : Read minis q ≡ number_at 32 page p) where
    on-minis : {r : Head} → r ≡ fromCount n page size minis q → r ≡ head_at 32 n page
    on-minis on = on-size (by_read Unopened _ (sym e₁) on)

    module _ {count u : ℕ} (e₂ : Read count u ≡ number_at 32 page q) where
      on-count : {r : Head} → r ≡ fromFirst n page size minis count u → r ≡ head_at 32 n page
      on-count on = on-minis (by_read Unopened _ (sym e₂) on)

      on-first : {first next : ℕ} {r : Head} → Read first next ≡ number_at 32 page u
          → r ≡ judged n size minis count first next → r ≡ head_at 32 n page
      on-first e₃ on = on-count (by_read Unopened _ (sym e₃) on)

-- the fields

pub returns-in_default : goal.returns-in_default
unfolding head_at
returns-in_default c =
    let s = c.number_at-size_field in
    not_read Unopened _ s.result c.in_default.not-Read s.ensures (c.refusal_of.ensures c.in_default.not-Read)

pub returns-in_default-minis_field : goal.returns-in_default-minis_field
returns-in_default-minis_field c =
    let m = c.number_at-minis_field in
    on-size _ _ c.in-Read.ensures
    (not_read Unopened _ m.result c.in_default-minis_field.not-Read m.ensures
    (c.refusal_of-in_default-minis_field.ensures c.in_default-minis_field.not-Read))

pub returns-in_default-count_field : goal.returns-in_default-count_field
returns-in_default-count_field c =
    let k = c.number_at-count_field in
    on-minis _ _ c.in-Read.ensures c.in-Read-minis_field.ensures
    (not_read Unopened _ k.result c.in_default-count_field.not-Read k.ensures
    (c.refusal_of-in_default-count_field.ensures c.in_default-count_field.not-Read))

pub returns-in_default-first_field : goal.returns-in_default-first_field
returns-in_default-first_field c =
    let f = c.number_at-first_field in
    on-count _ _ c.in-Read.ensures c.in-Read-minis_field.ensures c.in-Read-count_field.ensures
    (not_read Unopened _ f.result c.in_default-first_field.not-Read f.ensures
    (c.refusal_of-in_default-first_field.ensures c.in_default-first_field.not-Read))

-- all four are read: the shape, then the count

pub returns-then-not-is_shaped : goal.returns-then-not-is_shaped
returns-then-not-is_shaped c =
    on-first _ _ c.in-Read.ensures c.in-Read-minis_field.ensures c.in-Read-count_field.ensures
    c.in-Read-first_field.ensures (rw (← c.is_shaped.ensures, c.if-not-is_shaped.true))

pub returns-then-count-n : goal.returns-then-count-n
returns-then-count-n c =
    let other : c.in-Read-count_field.count ≡ c.args.n → ⊥ = c.if-count-n.true in
    on-first _ _ c.in-Read.ensures c.in-Read-minis_field.ensures c.in-Read-count_field.ensures
    c.in-Read-first_field.ensures (rw (← c.is_shaped.ensures, c.if-not-is_shaped.false, ne_eqb _ _ other))

pub returns : goal.returns
returns c =
    let same : c.in-Read-count_field.count ≡ c.args.n = c.if-count-n.false in
    on-first _ _ c.in-Read.ensures c.in-Read-minis_field.ensures c.in-Read-count_field.ensures
    c.in-Read-first_field.ensures (rw (← c.is_shaped.ensures, c.if-not-is_shaped.false, eq-eqb _ _ same))
