-- `scan_words::names::named` meets its contract: the first name that the word is.
use Rattle.std.proofs.Common.{◌∙◌, bytes_eq, rules, tests}
use Rattle.std.proofs.lemmas.Iterator.{YieldsList-from_slice}
use Rattle.std.proofs.lemmas.Iterator.Search.{find_from_yields_List}
use Rattle.scan_words.specs.LookedUp.{found}
use Rattle.scan_words.proofs.names.named.Goals as goal

pub returns-in_err-meaning : goal.returns-in_err-meaning
returns-in_err-meaning g c =
    let word = c.args.word.now in
    let names = c.args.names.now in
    let e =
    find_from_yields_List (λ n. bytes_eq word n.0.now) _ _ c.find.result c.find.ensures.ran
    (YieldsList-from_slice names cc) (λ x b q k. search (rules, tests)) in
    c.from_residual.ensures ∙ rw c.in_err-meaning.was at (found word names c.find.result e)

pub returns : goal.returns
returns g c =
    let word = c.args.word.now in
    let names = c.args.names.now in
    let e =
    find_from_yields_List (λ n. bytes_eq word n.0.now) _ _ c.find.result c.find.ensures.ran
    (YieldsList-from_slice names cc) (λ x b q k. search (rules, tests)) in
    rw c.in_ok-meaning.was at (found word names c.find.result e)
