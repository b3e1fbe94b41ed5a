-- `scan_words::numbers::magnitude` meets its contract: each turn takes one digit more.
use Rattle.std.proofs.Common.{◌≡◌, ◌<◌, Some, None, ◌∙◌, sym, length, get_or, arith, rules}
use Rattle.std.proofs.lemmas.Bool.Decides.{nat_tests}
use Rattle.scan_words.specs.DigitByDigit.{spelled-none, begun, next, further_low, ended}
use Rattle.scan_words.proofs.numbers.magnitude.Goals as goal

pub returns-then-is_empty : goal.returns-then-is_empty
returns-then-is_empty c =
    let word = c.args.word.now in
    let empty : length word ≡ 0 = grind (arith, nat_tests) in rw (spelled-none word empty)

pub loop-digit-init : goal.loop-digit-init
loop-digit-init c =
    let word = c.args.word.now in
    let some : 0 < length word = grind (arith, nat_tests) in (search rules, begun word some)

pub returns-in_err-m : goal.returns-in_err-m
returns-in_err-m c =
    let l = c.loop-digit in
    c.from_residual.ensures
    ∙ sym (next c.args.word.now l.m l.digit-index None (omega arith) (sym c.in_err-m.was ∙ c.longer.ensures))
    ∙ l.invariant.1

pub loop-digit-preserved : goal.loop-digit-preserved
loop-digit-preserved c =
    let word = c.args.word.now in
    let l = c.loop-digit in
    let m = c.in_ok-m.m in (
      further_low l.m (get_or word l.digit-index 0) m (sym c.longer.ensures ∙ c.in_ok-m.was),
      sym (next word l.m l.digit-index (Some m) (omega arith) (sym c.in_ok-m.was ∙ c.longer.ensures))
          ∙ l.invariant.1,
    )

pub returns : goal.returns
returns c =
    let word = c.args.word.now in
    let l = c.loop-digit in ended word word l.m l.digit-index (omega arith) l.invariant.0 l.invariant.1
