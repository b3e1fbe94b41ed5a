-- `spans_list::turns::last_word` meets its contract.
use mathlib.Core.Path.{◌≡◌, ap, ◌∙◌}
use Prim.Native.Nat.{ℕ, ◌-◌, ◌*◌, ◌/◌, ◌%◌, ◌^◌}
use native.Mathlib.Omega.{arith}
use lib.Pow.{pow_pos}
use Rattle.words.specs.Bits.{one_shl}
use Rattle.spans_list.specs.SelectedWords.{selected_part}
use Rattle.spans_list.proofs.turns.last_word.Goals as goal

pub nonzero_rem-result-2 : goal.nonzero_rem-result-2
nonzero_rem-result-2 c =
    let n = c.args.n in
    rw (one_shl 64 (n % 64) (omega arith)) (pow_pos (n % 64))

pub returns : goal.returns
returns c =
    let s = c in
    let a = s.args in
    let r : a.n % 64 ≡ a.n - 64 * (a.n / 64) = omega arith in
    ap (λ (p : ℕ). c.load_any.result % p) (one_shl 64 (a.n % 64) (omega arith) ∙ ap (λ (k : ℕ). 2 ^ k) r)
    ∙ selected_part a.bitmap.now (λ i. (c.type_inv.bitmap i).fits) a.n (a.n / 64)
    c.load_any.result
    (omega arith) c.load_any.ensures (omega arith) (omega arith)
