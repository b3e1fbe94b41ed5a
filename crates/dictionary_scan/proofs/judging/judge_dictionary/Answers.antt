-- `dictionary_scan::judging::judge_dictionary` meets its contract: the length first, then the values' order.
use borrow.Author.Tests.{eq-eqb, ne_eqb, lt-ltb, le-ltb}
use Rattle.rules.specs.Dictionary.{dictionary_fault}
use Rattle.dictionary_scan.proofs.judging.judge_dictionary.Goals as goal

pub returns-then-dict-ne0 : goal.returns-then-dict-ne0
unfolding dictionary_fault
returns-then-dict-ne0 c = rw (ne_eqb _ 0 c.if-dict-ne0.true)

pub returns-then-dict-gt65536 : goal.returns-then-dict-gt65536
unfolding dictionary_fault
returns-then-dict-gt65536 c = rw (eq-eqb _ 0 c.if-dict-ne0.false, lt-ltb 65536 _ c.if-dict-gt65536.true)

pub returns-then-unordered : goal.returns-then-unordered
unfolding dictionary_fault
returns-then-unordered c =
    rw (
      eq-eqb _ 0 c.if-dict-ne0.false,
      le-ltb 65536 _ c.if-dict-gt65536.false,
      ← c.unordered.ensures,
      c.if-unordered.true,
    )

pub returns : goal.returns
unfolding dictionary_fault
returns c =
    rw (
      eq-eqb _ 0 c.if-dict-ne0.false,
      le-ltb 65536 _ c.if-dict-gt65536.false,
      ← c.unordered.ensures,
      c.if-unordered.false,
    )
