-- `scan_day::picture::sentence` meets its contract: its pieces one behind another.
use mathlib.Core.List.{[]}
use native.Mathlib.Omega.{arith}
use borrow.Author.Tests.{eq-eqb, ne_eqb}
use Rattle.lines.specs.Text.{ascii, decimal}
use Rattle.scan_day.specs.Clock.{clock_time, laid-three, seven_pieces}
use Rattle.scan_day.specs.Sentence.{selected_of, sentence_of}
use Rattle.scan_day.proofs.picture.sentence.Goals as goal

pub returns-then-passed-eq0 : goal.returns-then-passed-eq0
unfolding sentence_of ascii
returns-then-passed-eq0 c =
    let a = c.args in
    rw (eq-eqb a.passed.read 0 (omega arith)) (cc)

pub returns-in_default : goal.returns-in_default
unfolding sentence_of selected_of ascii
returns-in_default c =
    let a = c.args in
    rw (ne_eqb a.passed.read 0 (omega arith), c.in_default.is)
    (cc (laid-three [] (ascii "none of ") (decimal a.passed.read) (ascii " seconds selected")))

pub returns : goal.returns
unfolding sentence_of selected_of ascii
returns c =
    let a = c.args in
    let ends = c.in-Some.ends in
    rw (ne_eqb a.passed.read 0 c.if-passed-eq0.false, c.in-Some.is)
    (seven_pieces (decimal a.passed.count) (ascii " of ") (decimal a.passed.read)
    (ascii " seconds selected, the first at ")
    (clock_time a.day ends.first) (ascii ", the last at ") (clock_time a.day ends.last)
    c.new-2.ensures
    c.number-2.ensures
    c.words-2.ensures
    c.number-line.ensures
    c.words-3.ensures
    c.clock-from.ensures
    c.words-4.ensures
    c.clock.ensures)
