-- `runs_mark::packed::mark_inside` meets its contract: each part is marked behind those before it.
use mathlib.Core.Path.{◌≡◌, ap, subst, ◌∙◌}
use mathlib.Core.Bool.{Bool}
use Prim.Native.Nat.{ℕ, ◌+◌, ◌-◌, ◌*◌, ◌/◌}
use native.Mathlib.Omega.{arith}
use borrow.Author.Rules.{rules}
use Rattle.rules.specs.Bits.{word, entry}
use Rattle.rules.specs.Bits.Order.{low_first}
use Rattle.words.specs.Appended.{appended}
use Rattle.compare.specs.Range.{ranged}
use Rattle.runs_mark.specs.SeveralGoes.{Begun, begun-none, begun-words, ended-words}
use Rattle.runs_mark.specs.BodyParts.{part_words, groups-rest, groups-more}
use Rattle.runs_mark.proofs.packed.mark_inside.Goals as goal

pub loop-part-init : goal.loop-part-init
unfolding word
loop-part-init c = begun-none _ _

pub mark_between-requires : goal.mark_between-requires
mark_between-requires c =
    let i = c.loop-part.part in
    let within = groups-more (56 * i) c.args.w c.args.m (omega arith) in
    search rules

pub loop-part-preserved : goal.loop-part-preserved
loop-part-preserved c =
    let a = c.args in
    let l = c.loop-part in
    let marked = c.mark_between.new.bitmap in
    let test : ℕ → Bool = λ k. ranged a.range (entry low_first a.body.now a.w k) in
    let place : 448 * l.part + 448 ≡ 448 * (l.part + 1) = omega arith in
    let stored : marked ≡ appended l.bitmap (a.p + 448 * l.part) (word 448 (λ i. test (448 * l.part + i))) 448 =
    c.mark_between.ensures
    ∙ ap (λ (x : ℕ). appended l.bitmap (a.p + 448 * l.part) x 448)
    (part_words a.body.now (448 * l.part) a.w (56 * a.w * l.part) 448 (ranged a.range) (omega arith)) in
    subst (λ (m : ℕ). Begun a.bitmap.now a.p (word m test) m marked) place
    (begun-words a.bitmap.now l.bitmap marked a.p (448 * l.part) 448 (omega arith) test l.invariant stored)

pub mark_between-requires-2 : goal.mark_between-requires-2
mark_between-requires-2 c =
    let i = (c.args.m - 1) / 448 in
    let size = groups-rest (56 * i) c.args.w c.args.m (omega arith) in
    search rules

pub returns : goal.returns
returns c =
    let a = c.args in
    let l = c.loop-part in
    let n = 448 * ((a.m - 1) / 448) in
    let rest = a.m - n in
    let marked = c.mark_between-2.new.bitmap in
    let test : ℕ → Bool = λ k. ranged a.range (entry low_first a.body.now a.w k) in
    let all : 448 * l.part ≡ n = omega arith in
    let whole : n + rest ≡ a.m = omega arith in
    let stored : marked ≡ appended l.bitmap (a.p + n) (word rest (λ i. test (n + i))) rest =
    c.mark_between-2.ensures
    ∙ ap (λ (x : ℕ). appended l.bitmap (a.p + n) x rest)
    (part_words a.body.now n a.w (56 * a.w * ((a.m - 1) / 448)) rest (ranged a.range) (omega arith)) in
    ended-words a.bitmap.now l.bitmap marked a.p n rest test
    (subst (λ (k : ℕ). Begun a.bitmap.now a.p (word k test) k l.bitmap) all l.invariant) stored
    ∙ ap (λ (m : ℕ). appended a.bitmap.now a.p (word m test) m) whole
