-- `dictionary_indexes::windows::some_in` meets its contract. The loop's invariant: a bit of the sums is set where
-- the groups passed have an index that is too large.
use mathlib.Core.Path.{◌≡◌, refl, ap, ap₂, ◌∙◌}
use mathlib.Core.Bool.{◌||◌}
use Prim.Native.Nat.{ℕ, ◌+◌, ◌*◌, ◌^◌}
use native.Mathlib.Omega.{arith}
use lib.Dec.{leb}
use lib.Pow.{pow_pos}
use Rattle.rules.specs.Bits.{field, some_below}
use Rattle.rules.specs.Bits.Order.{low_first}
use Rattle.packed_kernels.specs.SlotTests.{every-fits}
use Rattle.words.specs.Nonzero.{any_masked}
use Rattle.dictionary_indexes.specs.IndexWindows.{next_group}
use Rattle.dictionary_indexes.proofs.windows.some_in.Goals as goal

pub loop-g-init : goal.loop-g-init
unfolding some_below
loop-g-init c = refl

pub loop-g-preserved : goal.loop-g-preserved
loop-g-preserved c =
    let a = c.args in
    let l = c.loop-g in
    any_masked (2 ^ a.w * a.ones) l.large c.group_sums-large.result
    ∙ ap₂ ◌||◌ l.invariant c.group_sums-large.ensures
    ∙ next_group a.page.now a.w a.limit a.start l.g (a.start + l.g * a.w) refl

pub overflow_mul-result : goal.overflow_mul-result
overflow_mul-result c =
    let a = c.args in
    record {
      fits = rw (c.pow.ensures, c.requires.3)
          (every-fits a.n (2 * a.w) a.w _ (omega arith) (omega arith) (omega (arith, pow_pos a.w)));
    }

pub returns : goal.returns
returns c =
    let a = c.args in
    let all : c.loop-g.g ≡ a.groups = omega arith in
    rw c.pow.ensures
    (c.loop-g.invariant
    ∙ ap
    (λ (n : ℕ). some_below (8 * n)
    (λ k. leb a.limit (field low_first a.page.now (8 * a.start + k * a.w) a.w))) all)
