-- `scan_page::layouts::words_of` meets its contract: each turn puts one word more.
use mathlib.Core.Path.{◌≡◌, ap, ap₂, ◌∙◌}
use mathlib.Core.List.{List}
use Prim.Native.Nat.{ℕ}
use native.Mathlib.Omega.{arith}
use lib.ListN.{set}
use borrow.Author.Rules.{rules}
use Rattle.rules.specs.Bits.{put, tabulate}
use Rattle.words.specs.Tabulated.{put-tabulate, tabulate-none}
use Rattle.scan_page.specs.Layouts.{word_at}
use Rattle.scan_page.proofs.layouts.words_of.Goals as goal

pub loop-k-init : goal.loop-k-init
loop-k-init c = (
  search rules,
  search rules,
  search rules,
  tabulate-none c.args.words.now 0 (word_at c.args.page.now),
)

pub loop-k-preserved : goal.loop-k-preserved
loop-k-preserved c =
    let page = c.args.page.now in
    let k = c.loop-k.k in (
      search rules,
      search rules,
      search rules,
      ap₂ (λ (words : List ℕ) (x : ℕ). set words k x) c.loop-k.invariant.3 c.load_any.ensures
          ∙ put-tabulate c.args.words.now k (word_at page) (omega arith),
    )

pub returns : goal.returns
returns c =
    let all : c.loop-k.k ≡ c.min-all.result = omega arith in record {
      value = search rules;
      words_after = c.loop-k.invariant.3
          ∙ ap (λ (k : ℕ). put c.args.words.now 0 (tabulate k (word_at c.args.page.now))) all;
    }
