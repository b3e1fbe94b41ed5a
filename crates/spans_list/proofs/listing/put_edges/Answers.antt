-- `spans_list::listing::put_edges` meets its contract: the end of an open stretch, and then pairs.
use mathlib.Core.Path.{◌≡◌, sym, ap, ◌∙◌}
use mathlib.Core.Bool.{Bool, true, false}
use Prim.Native.Nat.{ℕ, ◌+◌, ◌-◌, ◌^◌, ◌<◌}
use native.Mathlib.Omega.{arith}
use lib.Bits.{bit_and}
use lib.Count.{ones, count_trailing_zeros}
use lib.Dec.{eqb}
use lib.ListN.{length-set}
use borrow.Author.Tests.{eq-eqb, ne_eqb}
use Rattle.rules.specs.Bits.{put}
use Rattle.words.specs.Puts.{put-none}
use Rattle.spans_list.specs.SetBits.{edges_of, edges_none, ones_none, trailing_lt, ones-first, put_first}
use Rattle.spans_list.proofs.listing.put_edges.Goals as goal

pub returns-then-turns-eq0 : goal.returns-then-turns-eq0
returns-then-turns-eq0 c =
    let a = c.args in
    let none : ones a.turns ≡ 0 = ap ones c.if-turns-eq0.true ∙ ones_none in
    let nothing = ap (edges_of (eqb a.carry 1) 64 a.p) c.if-turns-eq0.true ∙ edges_none (eqb a.carry 1) 64 a.p in
    record {
      place = omega (arith, none);
      wrote = put-none a.places.now a.q
          ∙ ap (put a.places.now a.q) (sym nothing);
    }

-- where a stretch ends, and that there is room
ends : (p turns : ℕ) → 0 < turns → turns < 2 ^ 64
    → (count_trailing_zeros 64 turns < 64) × (ones turns ≡ 1 + ones (bit_and turns (turns - 1)))
ends p turns some fits = (trailing_lt 64 turns some fits, ones-first true 64 p turns some fits)

pub bounds-places-q : goal.bounds-places-q
bounds-places-q c =
    let a = c.args in
    omega (arith, ends a.p a.turns (omega arith) (omega arith), c.requires.2)

pub put_pairs-requires : goal.put_pairs-requires
put_pairs-requires c =
    let a = c.args in
    (c.requires.0, simp length-set (omega (arith, ends a.p a.turns (omega arith) (omega arith), c.requires.2)))

pub returns-then-carry-eq1 : goal.returns-then-carry-eq1
returns-then-carry-eq1 c =
    let a = c.args in
    let is : eqb a.carry 1 ≡ true = eq-eqb _ _ c.if-carry-eq1.true in
    record {
      place = omega (arith, ends a.p a.turns (omega arith) (omega arith), c.put_pairs.ensures.place);
      wrote =
          put_first true 64 a.p a.turns (omega arith) (omega arith) a.places.now a.q c.requires.2
          c.put_pairs.ensures.wrote
          ∙ ap (λ (b : Bool). put a.places.now a.q (edges_of b 64 a.p a.turns)) (sym is);
    }

pub returns : goal.returns
returns c =
    let a = c.args in
    let not : eqb a.carry 1 ≡ false = ne_eqb _ _ c.if-carry-eq1.false in
    record {
      place = c.put_pairs-2.ensures.place;
      wrote =
          c.put_pairs-2.ensures.wrote
          ∙ ap (λ (b : Bool). put a.places.now a.q (edges_of b 64 a.p a.turns)) (sym not);
    }
