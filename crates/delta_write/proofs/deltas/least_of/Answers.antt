-- `delta_write::deltas::least_of` meets its contract: the fold goes over the deltas after the first.
use Rattle.std.proofs.Common.{rules, ◌≡◌, ℕ, ◌+◌, ◌-◌, ℤ, get_or, pos, refl, sym, ap, ◌∙◌, arith, List, [], ◌∷◌, to_z, of_z, w32}
use Rattle.std.specs.Int.{int_min}
use Rattle.std.specs.List.{fold, range_with_len}
use Rattle.std.proofs.lemmas.Fn.{fold_over}
use Rattle.std.proofs.lemmas.Iterator.{YieldsList-from_range}
use Rattle.std.proofs.lemmas.Grind.{fold-append}
use Rattle.std.proofs.iter.Yields.{nat_range_steps}
use Rattle.rules.specs.DeltaWriter.{deltas}
use Rattle.signed.proofs.Signs.{kept}
use Rattle.delta_write.specs.Deltas.{length-deltas, least_first, least_fold}
use Rattle.delta_write.proofs.deltas.least_of.Goals as goal

pub returns : goal.returns
returns c =
    let a = c.args in
    let ds = deltas 32 a.entries.now in
    let h : ℤ → ℕ → ℤ = λ least i. int_min least (get_or ds (a.from + i) (pos 0)) in
    let short = length-deltas 32 a.entries.now in
    let start = kept w32 c.delta_at-first.result (record { sfits = c.delta_at-first.type_inv }) in
    let first : ℤ = to_z w32 (of_z w32 c.delta_at-first.result) in
    let all : List ℕ = range_with_len 1 (a.k - 1) in
    let folded : c.fold.result ≡ fold h first all =
    fold_over nat_range_steps (λ x. x) _ (λ ys r. r ≡ fold h first ys) _
    (λ ys x y z f' j k.
    let one : z ≡ h x y = search rules in
    (one ∙ ap (λ (v : ℤ). h v y) j ∙ sym (fold-append h first ys (y ∷ [])), search rules))
    (record { start = 1; end = a.k }) all _ _ (YieldsList-from_range 1 a.k (a.k - 1) refl refl).runs refl
    c.fold.ensures.ran in
    kept w32 c.fold.result (record { sfits = c.fold.type_inv }) ∙ folded
    ∙ rw (start ∙ c.delta_at-first.ensures) (least_fold ds a.from _ 1 (a.k - 1) (omega (arith, short)))
    ∙ sym (least_first ds a.from a.k (omega (arith, short)) c.requires.0)
