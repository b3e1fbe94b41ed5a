-- `words::entries::entry_any` meets its contract: a window of eight bytes holds the bits, which begin in its first
-- byte.
use Prim.Native.Nat.{ℕ, ◌*◌, ◌/◌, ◌%◌, ◌^◌}
use mathlib.Core.Path.{◌≡◌, ap, ◌∙◌}
use native.Mathlib.Nat.{lt_of_lt_of_le}
use lib.Pow.{pow_pos, pow_mono}
use Rattle.rules.specs.Bits.{field}
use Rattle.words.specs.Bits.{one_shl}
use Rattle.words.specs.Entries.{window}
use Rattle.words.specs.Joined.{piece_lt}
use Rattle.rules.specs.Bits.Order.{low_first}
use native.Mathlib.Omega.{arith}
use Rattle.words.proofs.entries.entry_any.Goals as goal
use Rattle.words.proofs.entries.entry_any.Goals.{After-load_any}

value : (c : After-load_any)
    → let a = c.args in
    c.load_any.result / 2 ^ (a.k % 8) % ((1 * 2 ^ a.w) % 2 ^ 64) ≡ field low_first a.page.now a.k a.w
value c =
    let a = c.args in
    let l = a.page.now in
    rw (one_shl 64 a.w (omega arith), c.load_any.ensures)
    (window l (a.k / 8) 8 (a.k % 8) a.w (λ k. (c.type_inv.page k).fits) (omega arith)
    ∙ ap (λ (k : ℕ). field low_first l k a.w) (omega arith))

pub nonzero_rem-result-2 : goal.nonzero_rem-result-2
nonzero_rem-result-2 c = rw (one_shl 64 c.args.w (omega arith)) (pow_pos c.args.w)

pub overflow_cast-result-2 : goal.overflow_cast-result-2
overflow_cast-result-2 c =
    let a = c.args in
    record {
      fits = rw (value c)
          (lt_of_lt_of_le (piece_lt 8 a.page.now a.k a.w) (pow_mono {i = a.w} {j = 32} (omega arith)));
    }

pub returns : goal.returns
returns c = value c
