-- `words::filling::fill` meets its contract: each turn fills one place more.
use Rattle.std.proofs.Common.{◌≡◌, ℕ, length, refl, sym, ◌∙◌, ap, arith}
use Rattle.rules.specs.Bits.{tabulate, put}
use Rattle.words.specs.Puts.{put-all}
use Rattle.words.specs.Tabulated.{length-tabulate, tabulate-none, tabulate-same, put-tabulate}
use Rattle.words.proofs.filling.fill.Goals as goal

pub loop-place-init : goal.loop-place-init
loop-place-init g c = tabulate-none c.args.places.now 0 (λ _. c.args.value)

pub loop-place-preserved : goal.loop-place-preserved
loop-place-preserved g c =
    let l = c.loop-place in
    rw l.invariant (put-tabulate c.args.places.now l.place-index (λ _. c.args.value) (omega arith))

pub returns : goal.returns
returns g c =
    let a = c.args in
    let n : ℕ = length a.places.now in
    let all : c.loop-place.place-index ≡ n = omega arith in
    rw all at c.loop-place.invariant
    ∙ put-all a.places.now (tabulate n (λ _. a.value)) (sym (length-tabulate n (λ _. a.value)))
    ∙ tabulate-same n (λ _. a.value) a.value (λ i h. refl)
