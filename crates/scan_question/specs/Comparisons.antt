-- What a comparison at the end of the words is.
use Rattle.std.specs.Prelude.{◌≡◌, ℕ, ◌<◌, ◌≤◌}
use Rattle.scan_question.specs.declared.comparisons.Comparison.{Comparison}

-- at the end of m words: no more are taken than there are; the operator is one of the eight of document 01, and the
-- words are it and its constants, one for 0 to 5, two for 6 and 7
pub record Understood (m : ℕ) (c : Comparison) : Type 0 where
  pub fits : c.words ≤ m
  pub known : c.op < 8
  pub one_constant : c.op < 6 → c.words ≡ 2
  pub two_constants : 6 ≤ c.op → c.words ≡ 3
