-- `spans_list::from_bitmap::listed` meets its contract: the number is half of the places written.
use mathlib.Core.Path.{sym, ap, ◌∙◌}
use mathlib.Core.Bool.{Bool}
use Prim.Native.Nat.{ℕ, ◌/◌, ◌≤◌}
use native.Mathlib.Omega.{arith}
use lib.ListN.{length}
use borrow.Author.Tests.{ltb-false}
use Rattle.rules.specs.Answer.{faulty, accepted, room_fault}
use Rattle.rules.specs.Spans.{spans}
use Rattle.rules.specs.declared.Refusal.TheVariants.{OutputTooShort}
use Rattle.answers.specs.Laws.{refused_call, accepted_is}
use Rattle.spans_list.specs.Turns.{spans-enough}
use Rattle.spans_list.proofs.from_bitmap.listed.Goals as goal

pub returns-then-is_short : goal.returns-then-is_short
unfolding room_fault
returns-then-is_short c =
    refused_call _ _ _ OutputTooShort _
    (ap (λ (b : Bool). faulty b 4) (sym c.is_short.ensures ∙ c.if-is_short.true))

pub list-requires : goal.list-requires
list-requires c =
    let a = c.args in
    let enough : length (spans a.bitmap.now a.n) ≤ length a.places.now =
    ltb-false _ _ (sym c.is_short.ensures ∙ c.if-is_short.false) in
    (c.requires.0, c.requires.1, enough)

-- the number that is given fits its type
pub overflow_cast-result : goal.overflow_cast-result
overflow_cast-result c =
    omega (arith, c.requires.0, c.list.ensures.count, spans-enough c.args.bitmap.now c.args.n)

pub returns : goal.returns
unfolding room_fault
returns c =
    accepted_is _ _ _ _ _ _ (ap (λ (b : Bool). faulty b 4) (sym c.is_short.ensures ∙ c.if-is_short.false))
    (ap (λ (m : ℕ). accepted (m / 2)) c.list.ensures.count) c.list.ensures.wrote
