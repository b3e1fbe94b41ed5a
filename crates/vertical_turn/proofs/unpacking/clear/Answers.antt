-- `vertical_turn::unpacking::clear` meets its contract: the filled part, with what lies behind it.
use mathlib.Core.Path.{◌≡◌, refl}
use Prim.Native.Nat.{ℕ}
use native.Mathlib.Nat.{zero-add}
use lib.ListN.{length, take, replicate, length-replicate}
use lib.Seq.{length-take-le}
use native.Mathlib.Omega.{arith}
use Rattle.rules.specs.Bits.{put, tabulate}
use Rattle.words.specs.Tabulated.{tabulate-same}
use Rattle.vertical_turn.proofs.unpacking.clear.Goals as goal

pub returns : goal.returns
unfolding put
returns c =
    let a = c.args in
    let size : length (take a.m a.entries.now) ≡ a.m = length-take-le a.m a.entries.now (omega arith) in
    let none : tabulate {A = ℕ} a.m (λ j. 0) ≡ replicate a.m 0 = tabulate-same {A = ℕ} a.m (λ j. 0) 0 (λ i h. refl) in
    let filled : c.fill.new.places ≡ replicate a.m 0 = rw size at c.fill.ensures in
    rw (none, filled, length-replicate {A = ℕ} a.m 0, zero-add a.m) refl
