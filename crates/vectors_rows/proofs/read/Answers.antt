-- `vectors_rows::read` meets its contract: by its three tests.
use Rattle.std.proofs.Common.{rules, ◌≡◌}
use Rattle.std.proofs.lemmas.Bool.Decides.{Decides-at}
use mathlib.Core.Bool.{◌&&◌}
use Rattle.vectors_rows.specs.Read.{decides_read}
use Rattle.vectors_rows.proofs.read.Goals as goal

pub returns : goal.returns
returns g c =
    let a = c.args in
    let counted = c.accepted-is_counted.result in
    let begun = c.begins-is_begun.result in
    let both : c.told.result ≡ (counted && begun) = search rules in
    Decides-at c.told.result (counted && begun) both
    (decides_read a.answer a.places.now a.published.now counted begun c.accepted-is_counted.ensures
    c.begins-is_begun.ensures)
