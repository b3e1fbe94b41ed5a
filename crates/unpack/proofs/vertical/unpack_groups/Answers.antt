-- `unpack::vertical::unpack_groups` meets its contract. The loop's invariant: the entries of the groups passed are
-- in place.
use mathlib.Core.Path.{◌≡◌, ap, ◌∙◌}
use mathlib.Core.List.{List}
use Prim.Native.Nat.{ℕ, ◌+◌, ◌-◌, ◌*◌, ◌/◌, min}
use native.Mathlib.Omega.{arith}
use Rattle.rules.specs.Bits.{put, tabulate}
use Rattle.rules.specs.Vertical.{entry, lane}
use Rattle.words.specs.Puts.{put-none}
use Rattle.words.specs.Entries.{place-within}
use Rattle.unpack.specs.GroupEntries.{next-entries}
use Rattle.unpack.proofs.vertical.unpack_groups.Goals as goal

pub loop-g-init : goal.loop-g-init
unfolding tabulate
loop-g-init c =
    let a = c.args in
    let none : min (64 * 0) a.n ≡ 0 = omega arith in
    rw none (put-none a.entries.now 0)

pub unpack_one-requires : goal.unpack_one-requires
unpack_one-requires c =
    let a = c.args in
    let l = c.loop-g in
    omega (arith, place-within a.w l.g ((a.n + 63) / 64) (omega arith))

pub loop-g-preserved : goal.loop-g-preserved
loop-g-preserved c =
    let s = c in
    let l = s.loop-g in
    let a = s.args in
    s.unpack_one.ensures
    ∙ ap
    (λ (x : List ℕ). put x (64 * l.g)
    (tabulate (min 64 (a.n - 64 * l.g)) (lane a.words.now (l.g * a.w) a.w))) l.invariant
    ∙ next-entries a.entries.now a.words.now a.w a.n l.g (omega arith) (omega arith)

pub returns : goal.returns
returns c =
    let a = c.args in
    let all : min (64 * c.loop-g.g) a.n ≡ a.n = omega arith in
    c.loop-g.invariant ∙ ap (λ (k : ℕ). put a.entries.now 0 (tabulate k (entry a.words.now a.w))) all
