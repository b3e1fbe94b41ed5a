-- `Values::write_packed` meets its contract. The loop's invariant: the values of k indexes are in place, and
-- the next begins at byte `from`.
use mathlib.Core.Path.{◌≡◌}
use Prim.Native.Nat.{ℕ, ◌+◌, ◌*◌, ◌≤◌}
use native.Mathlib.Nat.{add-mul, zero-mul, mul-le-mul_right}
use native.Mathlib.Omega.{arith}
use borrow.Author.Rules.{rules}
use Rattle.rules.specs.Bits.{field}
use Rattle.rules.specs.Bits.Order.{low_first}
use Rattle.rules.specs.Dictionary.{value}
use Rattle.words.specs.Tabulated.{tabulate-none}
use Rattle.dictionary_scan.specs.Values.{looked_on}
use Rattle.unpack.proofs.dictionary_lookup.ValuesRunWriting.write_packed.Goals as goal

-- k entries more, of m, lie within the page
within : (m w i k : ℕ) → i + k ≤ m → i * w + k * w ≤ m * w
within m w i k h = omega (arith, add-mul i k w, mul-le-mul_right w h)

pub loop-k-init : goal.loop-k-init
loop-k-init c =
    let a = c.args in (
      omega arith,
      omega (arith, zero-mul a.w),
      tabulate-none a.entries.now a.i
          (λ k. value a.self.dict.now (field low_first a.page.now (8 * a.start + k * a.w) a.w)),
    )

pub place_part-requires : goal.place_part-requires
place_part-requires c =
    let a = c.args in (
      search rules,
      search rules,
      omega arith,
      omega (arith, c.loop-k.invariant.1, within a.m a.w c.loop-k.k c.min-few.result (omega arith)),
      omega arith,
    )

pub overflow_add-from : goal.overflow_add-from
overflow_add-from c =
    let a = c.args in
    omega (arith, c.loop-k.invariant.1, within a.m a.w c.loop-k.k c.min-few.result (omega arith))

pub loop-k-preserved : goal.loop-k-preserved
loop-k-preserved c =
    let a = c.args in
    let l = c.loop-k in
    let placed =
    looked_on (value a.self.dict.now) a.page.now a.entries.now l.entries _ a.i l.k c.min-few.result l.from a.start a.w
    l.invariant.1 (omega arith) l.invariant.2 c.place_part.ensures in
    let more : l.k + c.min-few.result ≡ l.k + 64 = omega arith in
    (omega arith, omega (arith, l.invariant.1, add-mul l.k 64 a.w), rw more at placed)

-- the last entries
pub returns-2 : goal.returns-2
returns-2 c =
    let a = c.args in
    let l = c.loop-k in
    let placed =
    looked_on (value a.self.dict.now) a.page.now a.entries.now l.entries _ a.i l.k c.min-few.result l.from a.start a.w
    l.invariant.1 (omega arith) l.invariant.2 c.place_part.ensures in
    let all : l.k + c.min-few.result ≡ a.m = omega arith in
    rw all at placed

-- no entry is to be placed
pub returns : goal.returns
returns c =
    let all : c.loop-k.k ≡ c.args.m = omega arith in
    rw (← all) c.loop-k.invariant.2
