-- `words::entries::entry_in` meets its contract: the bits lie in the window of eight bytes.
use mathlib.Core.Path.{ap, ◌∙◌}
use Prim.Native.Nat.{ℕ, ◌+◌, ◌/◌, ◌%◌}
use native.Mathlib.Nat.{mod-lt, lt_of_lt_of_le}
use native.Mathlib.Omega.{arith}
use Rattle.rules.specs.Bits.Order.{low_first}
use lib.Pow.{pow_pos, pow_mono}
use Rattle.rules.specs.Bits.{field}
use Rattle.words.specs.Bits.{one_shl}
use Rattle.words.specs.Entries.{window}
use Rattle.words.proofs.entries.entry_in.Goals as goal

pub nonzero_rem-result-2 : goal.nonzero_rem-result-2
nonzero_rem-result-2 c =
    rw (one_shl 64 c.args.w (omega arith)) (pow_pos c.args.w)

pub overflow_cast-result : goal.overflow_cast-result
overflow_cast-result c =
    let w = c.args.w in
    record {
      fits = rw (one_shl 64 w (omega arith))
          (lt_of_lt_of_le (mod-lt _ (pow_pos w)) (pow_mono {i = w} {j = 32} (omega arith)));
    }

pub returns : goal.returns
returns c =
    let a = c.args in
    let l = a.page.now in
    rw (one_shl 64 a.w (omega arith), c.load8.ensures)
    (window l (a.at + a.b / 8) 8 (a.b % 8) a.w (λ k. (c.type_inv.page k).fits) (omega arith)
    ∙ ap (λ (k : ℕ). field low_first l k a.w) (omega arith))
