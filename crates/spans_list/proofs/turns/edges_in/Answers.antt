-- `spans_list::turns::edges_in` meets its contract. The loop's invariant: the edges of the words passed are
-- counted, and the carry is the last entry passed.
use mathlib.Core.Path.{◌≡◌, refl, ap, ◌∙◌}
use mathlib.Core.Bool.{Bool}
use Prim.Native.Nat.{ℕ, ◌+◌, ◌*◌, ◌/◌, ◌%◌, ◌^◌, ◌≤◌}
use native.Mathlib.Omega.{arith}
use lib.Bits.{bit_xor}
use lib.Count.{ones}
use lib.ListN.{length}
use Rattle.rules.specs.Bits.{flag, word}
use Rattle.rules.specs.Spans.{selected}
use Rattle.words.specs.Bits.{flag_lt}
use Rattle.spans_list.specs.Turns.{in_front, turned, turned-few, turned-spans}
use Rattle.spans_list.specs.SelectedWords.{selected-whole, next_carry, turns-count, turned_more}
use Rattle.spans_list.proofs.turns.edges_in.Goals as goal

pub loop-q-init : goal.loop-q-init
unfolding turned in_front
loop-q-init c = (refl, refl)

-- the words passed have few edges
passed : (test : ℕ → Bool) (q : ℕ) {count carry : ℕ} → count ≡ length (turned test (64 * q) 0)
    → carry ≡ flag (in_front test (64 * q)) → (carry ≤ 1) × (count ≤ 64 * q)
passed test q counted opened =
    (omega (arith, opened, flag_lt (in_front test (64 * q))), omega (arith, counted, turned-few test (64 * q) 0))

-- and those of the next, x, by its turns r
next : (test : ℕ → Bool) (q : ℕ) {count carry : ℕ} (x r : ℕ) → count ≡ length (turned test (64 * q) 0)
    → carry ≡ flag (in_front test (64 * q)) → x ≡ word 64 (λ j. test (64 * q + j))
    → r ≡ bit_xor x (x % 2 ^ 63 * 2 + carry)
    → (count + ones r ≡ length (turned test (64 * q + 64) 0)) × (ones r ≤ 64)
next test q {carry = carry} x r counted opened is e =
    let edges = ap ones e ∙ turns-count test (64 * q) x carry is opened in
    (omega (arith, edges, counted, turned_more test (64 * q)), omega (arith, edges, turned-few test 64 (64 * q)))

pub overflow_add-count : goal.overflow_add-count
overflow_add-count c =
    let a = c.args in
    let l = c.loop-q in
    let v = l.invariant in
    let whole = selected-whole a.bitmap.now (λ i. (c.type_inv.bitmap i).fits) a.n l.q c.load8-x.result (omega arith)
    c.load8-x.ensures (omega (arith, c.loop-q-test.true)) in
    omega (
      arith,
      next (selected a.bitmap.now a.n) l.q c.load8-x.result c.turns.result v.0 v.1 whole c.turns.ensures,
      passed (selected a.bitmap.now a.n) l.q v.0 v.1,
    )

pub loop-q-preserved : goal.loop-q-preserved
loop-q-preserved c =
    let a = c.args in
    let l = c.loop-q in
    let v = l.invariant in
    let t = selected a.bitmap.now a.n in
    let whole = selected-whole a.bitmap.now (λ i. (c.type_inv.bitmap i).fits) a.n l.q c.load8-x.result (omega arith)
    c.load8-x.ensures (omega (arith, c.loop-q-test.true)) in
    let here = next t l.q c.load8-x.result c.turns.result v.0 v.1 whole c.turns.ensures in
    let at : 64 * (l.q + 1) ≡ 64 * l.q + 64 = omega arith in (
      rw at here.0,
      rw at (next_carry t (64 * l.q) c.load8-x.result l.carry whole v.1),
    )

pub overflow_add-result : goal.overflow_add-result
overflow_add-result c =
    let a = c.args in
    let t = selected a.bitmap.now a.n in
    let e : c.loop-q.q ≡ a.n / 64 = omega arith in
    let v = rw e at c.loop-q.invariant in
    omega (
      arith,
      next t (a.n / 64) c.last_word.result c.turns-2.result v.0 v.1 c.last_word.ensures c.turns-2.ensures,
      passed t (a.n / 64) v.0 v.1,
    )

pub returns : goal.returns
returns c =
    let a = c.args in
    let t = selected a.bitmap.now a.n in
    let e : c.loop-q.q ≡ a.n / 64 = omega arith in
    let v = rw e at c.loop-q.invariant in
    (next t (a.n / 64) c.last_word.result c.turns-2.result v.0 v.1 c.last_word.ensures c.turns-2.ensures).0
    ∙ ap length (turned-spans a.bitmap.now a.n (64 * (a.n / 64) + 64) (omega arith))
