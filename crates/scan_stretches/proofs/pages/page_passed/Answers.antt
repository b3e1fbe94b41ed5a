-- `scan_stretches::pages::page_passed` meets its contract: the pairs passed are those of the page.
use mathlib.Core.Path.{◌≡◌, ◌∙◌, ap, refl}
use mathlib.Core.List.{List}
use Prim.Native.Nat.{ℕ, min}
use borrow.Author.Rules.{rules}
use Rattle.std.specs.Prelude.{Result, Ok, Err}
use Rattle.std.specs.Result.{result_unwrap_or}
use Rattle.rules.specs.Refusals.{answer_of}
use Rattle.rules.specs.declared.Refusal.{Refusal}
use Rattle.scan_stretches.specs.Pages.{stretched, page_part}
use Rattle.scan_stretches.proofs.pages.page_passed.Goals as goal

-- the number that was given, 0 where there is none, is the answer's
number_is : (came : Result ℕ Refusal) → result_unwrap_or came 0 ≡ (answer_of came).number
number_is (Ok number) = refl
number_is (Err r) = refl

pub returns : goal.returns
returns c =
    let a = c.args in
    let came = c.from_bitmap.result in
    c.list_passed.ensures
    ∙ ap (λ (l : List ℕ). stretched a.start l a.before.going)
    (page_part a.bitmap.now a.n _ _ (answer_of came) c.min-numbers.result (search rules)
    c.from_bitmap.ensures
    (c.min-numbers.ensures ∙ ap (λ (k : ℕ). min k 8192) (c.unwrap_or-count.ensures ∙ number_is came)))
