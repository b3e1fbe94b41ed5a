-- What a column without a fault is.
use Rattle.std.specs.Prelude.{◌≡◌, List, ℕ, ◌<◌, leb}
use Rattle.std.proofs.Common.{arith, leb-false}
use Rattle.rules.specs.Runs.{stream_fault}
use Rattle.rules.specs.Dictionary.{count, dictionary_fault, indexes, index_at, index_fault, column_fault}
use Rattle.words.specs.SomeBelow.{below_none}
use Rattle.answers.specs.Laws.{then_zero, not-faulty}

pub record Good (dict : List ℕ) (n : ℕ) (page : List ℕ) : Type 0 where
  pub dictionary : dictionary_fault dict ≡ 0
  pub reads : stream_fault (indexes n page) ≡ 0
  pub below : (i : ℕ) → i < n → index_at n page i < count dict

pub good-column : (dict : List ℕ) (n : ℕ) (page : List ℕ) → column_fault dict n page ≡ 0 → Good dict n page
unfolding column_fault index_fault
good-column dict n page e =
    let f = then_zero (dictionary_fault dict) _ e in
    let g = then_zero (stream_fault (indexes n page)) _ f.1 in
    let none = below_none n (λ i. leb (count dict) (index_at n page i)) (not-faulty _ 15 (λ z. omega arith) g.1) in
    record { dictionary = f.0; reads = g.0; below = λ i l. leb-false (count dict) (index_at n page i) (none i l) }
