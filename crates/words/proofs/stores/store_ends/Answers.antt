-- `words::stores::store_ends` meets its contract: the last K bytes are stored over what they share with the first.
use native.Mathlib.Omega.{arith}
use mathlib.Core.Path.{◌≡◌, ap, ◌∙◌}
use mathlib.Core.List.{List}
use Prim.Native.Nat.{ℕ, ◌+◌, ◌-◌, ◌*◌, ◌/◌, ◌^◌}
use Rattle.rules.specs.Bits.{bytes, put}
use Rattle.words.specs.Bytes.{put-ends}
use Rattle.words.proofs.stores.store_ends.Goals as goal

pub returns : goal.returns
returns g c =
    let a = c.args in
    let k : ℕ = g.row.K in
    let last : ℕ = a.n - k in
    let even : 2 * (k / 2) ≡ k = omega arith in
    rw even at c.store_twos-2.ensures
    ∙ ap (λ (l : List ℕ). put l (a.at + last) (bytes k (a.x / 2 ^ (8 * last)))) (rw even at c.store_twos.ensures)
    ∙ put-ends a.s.now a.at k a.n a.x (omega arith) (omega arith) (omega arith)
