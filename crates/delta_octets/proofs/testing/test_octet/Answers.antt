-- `delta_octets::testing::test_octet` meets its contract: both ways give what the contract says.
use Rattle.std.proofs.Common.{◌≡◌, ℕ, ◌+◌, sym, ap, ◌∙◌, arith}
use Rattle.compare.specs.Range.{ranged}
use Rattle.delta_octets.specs.Steps.{packed_step, step_from_lem, step-place}
use Rattle.delta_octets.specs.Octets.{octet_of, octet_ext}
use Rattle.delta_octets.proofs.testing.test_octet.Goals as goal

pub overflow_mul-at : goal.overflow_mul-at
overflow_mul-at c = let s = c in omega (arith, step-place s.args.i s.args.w s.requires.2 s.requires.0)

pub overflow_add-at : goal.overflow_add-at
overflow_add-at c = let s = c in omega (arith, step-place s.args.i s.args.w s.requires.2 s.requires.0)

pub overflow_add-at-then-k-eq8 : goal.overflow_add-at-then-k-eq8
overflow_add-at-then-k-eq8 c = let s = c in omega (arith, step-place s.args.i s.args.w s.requires.2 s.requires.0)

pub returns-then-at-w : goal.returns-then-at-w
returns-then-at-w c =
    let s = c in
    let a = s.args in
    let all : a.k ≡ 8 = c.if-k-eq8.true in
    let d : ℕ → ℕ = λ j. packed_step a.least a.body.now a.w (a.i + j) in
    c.test_whole.ensures
    ∙ octet_ext 32 8 (ranged a.range) a.from _ d
    (λ j l. step_from_lem a.least a.body.now a.w a.i j s.requires.3)
    ∙ ap (λ (k : ℕ). octet_of 32 k (ranged a.range) a.from d) (sym all)
