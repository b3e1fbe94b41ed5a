-- `packed_entries::groups::unpack_eight` meets its contract: each turn fills one place more.
use Prim.Native.Nat.{ℕ, ◌+◌, ◌*◌}
use native.Mathlib.Omega.{arith}
use Rattle.rules.specs.Bits.{field}
use Rattle.rules.specs.Bits.Order.{low_first}
use Rattle.words.specs.Tabulated.{tabulate-none, put-tabulate_at}
use Rattle.packed_entries.proofs.groups.unpack_eight.Goals as goal

pub loop-j-init : goal.loop-j-init
loop-j-init c =
    let a = c.args in
    tabulate-none a.entries.now a.i (λ k. field low_first a.page.now (8 * a.at + k * a.w) a.w)

pub loop-j-preserved : goal.loop-j-preserved
loop-j-preserved c =
    let a = c.args in
    let l = c.loop-j in
    let f : ℕ → ℕ = λ k. field low_first a.page.now (8 * a.at + k * a.w) a.w in
    rw (l.invariant, c.entry_in.ensures) (put-tabulate_at a.entries.now a.i l.j f (omega arith))
