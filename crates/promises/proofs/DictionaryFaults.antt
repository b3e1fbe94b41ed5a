-- When a dictionary column has no fault, in plain conditions.
use Rattle.std.specs.Prelude.{◌≡◌, List, ◌↔◌}
use Rattle.std.proofs.Math.Logic.Iff
use Prim.Native.Nat.{ℕ}
use Rattle.rules.specs.Dictionary.{column_fault}
use Rattle.promises.specs.NoFault.{neither}
use Rattle.promises.specs.DictionaryFaults.{Exact, dictionary-exact, indexes-cut, indexes-exact, below-exact}

-- 14, those of the index page, 15
pub column-exact : (page dict : List ℕ) (n : ℕ) → column_fault dict n page ≡ 0 ↔ Exact page dict n
unfolding column_fault
column-exact page dict n =
    Iff.trans
    (neither _ _ (dictionary-exact dict) (neither _ _ (indexes-exact page n) (below-exact page dict n))) (
      λ e. record { ascending = e.0; cuttable = e.1.0; below = rw (indexes-cut e.1.0) at e.1.1 },
      λ good. (good.ascending, (good.cuttable, rw (indexes-cut good.cuttable) good.below)),
    )
