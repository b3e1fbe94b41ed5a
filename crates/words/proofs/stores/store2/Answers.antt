-- `words::stores::store2` meets its contract: two stores are the two bytes in place.
use mathlib.Core.Path.{◌≡◌, ap₂, ◌∙◌}
use Prim.Native.Nat.{ℕ, ◌/◌, ◌%◌}
use native.Mathlib.Numerals.{add-one}
use native.Mathlib.Omega.{arith}
use lib.ListN.{set, length-set}
use lib.Seq.{sets-eq}
use Rattle.rules.specs.Bits.{bytes, put}
use Rattle.words.proofs.stores.store2.Goals as goal

pub bounds-s-at-2 : goal.bounds-s-at-2
bounds-s-at-2 c = simp length-set (omega arith)

pub returns : goal.returns
unfolding bytes put
returns c =
    let l = c.args.s.now in
    let at = c.args.at in
    let x = c.args.x in
    let top : x / 256 ≡ x / 256 % 256 = omega arith in
    ap₂ (λ (i v : ℕ). set (set l at (x % 256)) i v) (add-one at) top ∙ sets-eq (bytes 2 x) l at (omega arith)
