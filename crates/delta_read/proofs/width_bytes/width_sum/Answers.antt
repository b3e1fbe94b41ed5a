-- `delta_read::width_bytes::width_sum` meets its contract: the chain adds the bytes of the part, which are few.
use Rattle.std.proofs.Common.{rules, tests, ◌≡◌, ℕ, ◌+◌, ◌-◌, ◌*◌, ◌<◌, ◌≤◌, ◌^◌, List, get_or, take, drop, ap, ◌∙◌, arith, get_or-drop}
use Rattle.std.proofs.lemmas.Iterator.{YieldsList-from_slice, YieldsList-from_map}
use Rattle.std.proofs.lemmas.Iterator.Consumers.{sum_by_from_yields_List, fits_by_from_yields_list}
use Rattle.rules.specs.Delta.{sum}
use Rattle.delta_read.specs.WidthBytes.{sum_le, sum_added}
use Rattle.delta_read.proofs.width_bytes.width_sum.Goals as goal

pub sum-requires-clause-fits : goal.sum-requires-clause-fits
sum-requires-clause-fits c =
    let a = c.args in
    let part : List ℕ = take (a.at + a.need - a.at) (drop a.at a.page.now) in
    let bytes : (k : ℕ) → get_or (drop a.at a.page.now) k 0 < 256 =
    λ k. rw get_or-drop (c.type_inv.page (a.at + k)).fits in
    let few : sum part ≤ 255 * (a.at + a.need - a.at) = sum_le (drop a.at a.page.now) _ bytes in
    fits_by_from_yields_list (λ x. x) part c.map.result (2 ^ 64)
    (YieldsList-from_map _ (λ x. x) (YieldsList-from_slice part cc) c.map.ensures.closure
    (λ x r q k. search (rules, tests)))
    (omega (arith, sum_added 0 part))

pub returns : goal.returns
returns c =
    let a = c.args in
    let part : List ℕ = take (a.at + a.need - a.at) (drop a.at a.page.now) in
    let whole : a.at + a.need - a.at ≡ a.need = omega arith in
    sum_by_from_yields_List (λ x. x) part c.map.result _ c.sum.ensures.ran
    (YieldsList-from_map _ (λ x. x) (YieldsList-from_slice part cc) c.map.ensures.closure
    (λ x r q k. search (rules, tests)))
    ∙ omega (arith, sum_added 0 part) ∙ ap (λ (n : ℕ). sum (take n (drop a.at a.page.now))) whole
