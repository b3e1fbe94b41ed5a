-- `scan_page::answering::answered` meets its contract: a refusal keeps the bitmap, and what was accepted are the
-- bytes that were read.
use Rattle.answers.specs.Laws.{code_some}
use Rattle.std.proofs.Common.{◌≡◌, length, take, arith}
use Rattle.scan_page.specs.Answered.{all_in_words, scan_keeps}
use Rattle.scan_page.proofs.answering.answered.Goals as goal
use Rattle.scan_page.proofs.answering.answered.Goals.{
  else-in_words-via-then-in_words+else-size-ne0,
  else-in_words-via-else-in_words,
}

pub returns-in-Err : goal.returns-in-Err
returns-in-Err g c =
    let a = c.args in
    rw c.tell-in-Err.ensures
    (scan_keeps a.q a.dictionary.now _ a.n a.bitmap.now _ _ c.in-Err.ensures (code_some _))

pub returns-in-Ok : goal.returns-in-Ok
returns-in-Ok g c =
    let n = c.in-Some.size in
    let places = c.read.new.places in
    let size : n ≡ length (take n places) = c.in-Some.ensures.1 in
    let room : length places ≡ 163840 = c.read.auto.places in
    record {
      page = take n places;
      count = c.in-Ok.field-0;
      whole =
          λ planes.
          all_in_words _ (omega (arith, c.in-Some.ensures.0))
          (elim c.else-in_words.branch [
            | else-in_words-via-then-in_words+else-size-ne0 w ↦ omega (arith, w.if-size-ne0.false)
            | else-in_words-via-else-in_words w ↦ absurd (cc)
          ]);
      scan = c.in-Ok.ensures;
    }
