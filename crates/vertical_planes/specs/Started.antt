-- Before the first plane, with both ends: undecided against both, or parted already.
use Rattle.std.specs.Prelude.{◌≡◌, Bool, false, ◌&&◌, ◌||◌, List, [], ℕ, ◌-◌, ◌^◌, ℤ, length}
use Rattle.std.proofs.Common.{sym, ap, ap₂, ◌∙◌, arith}
use Rattle.std.specs.Int.Bits.{bit_and, bit_or}
use Rattle.rules.specs.Bits.{word}
use Rattle.rules.specs.Planes.{undecided}
use Rattle.words.specs.Bits.{word-ext, word_and, word_or}
use Rattle.words.specs.Bits.{word-not}
use Rattle.words.specs.Tests.{both}
use Rattle.compare.specs.declared.bands.Band.{Band}
use Rattle.vertical_planes.specs.Ends.{below}
use Rattle.vertical_planes.specs.Standing.{low_open, high_open, Standing, Within}
use Rattle.vertical_planes.specs.OnePlaneMore.{above_is}
use Rattle.vertical_planes.specs.BeforeThePlanes.{undecided_any, below_any, undecided-same}
use Rattle.vertical_planes.specs.OneLane.{sides}
use Rattle.vertical_planes.specs.Words.{has_word, none-same, some_same}
use Rattle.vertical_planes.specs.declared.ends.End.{End}

-- what is said of an end then
abbrev pub Started : ℕ → ℤ → End → Type 0
Started w z end = end ≡ record { less = word 64 (below [] w 0 z); undecided = word 64 (undecided [] w 0 z) }

module _ (planes : List ℕ) (z : ℤ) (end : End) (e : Started (length planes) z end) where
  less_is : end.less ≡ word 64 (below planes (length planes) 0 z)
  less_is = ap (λ (x : End). x.less) e ∙ word-ext 64 (λ j _. below_any planes (length planes) z j)

  open_is : end.undecided ≡ word 64 (undecided planes (length planes) 0 z)
  open_is = ap (λ (x : End). x.undecided) e ∙ word-ext 64 (λ j _. undecided_any planes (length planes) z j)

module _ (planes : List ℕ) (band : Band) (lower upper : End)
    (low-is : Started (length planes) band.low lower)
    (high_is : Started (length planes) band.high upper) where
  abbrev lo : ℕ → Bool
  lo = low_open planes band 0

  abbrev hi : ℕ → Bool
  hi = high_open planes band 0

  lower-open : lower.undecided ≡ word 64 lo
  lower-open = open_is planes band.low lower low-is

  upper-open : upper.undecided ≡ word 64 hi
  upper-open = open_is planes band.high upper high_is

  both-same : (j : ℕ) → (lo j && hi j) ≡ (lo 0 && hi 0)
  both-same j =
      ap₂ ◌&&◌ (undecided-same planes (length planes) band.low j 0)
      (undecided-same planes (length planes) band.high j 0)

  both-open : bit_and lower.undecided upper.undecided ≡ word 64 (λ _. lo 0 && hi 0)
  both-open = ap₂ bit_and lower-open upper-open ∙ word_and 64 lo hi ∙ word-ext 64 (λ j _. both-same j)

  pub within : (bit_and lower.undecided upper.undecided ≡ 0 → ⊥) → Within planes band
  within some = both (lo 0) (hi 0) (some_same (lo 0 && hi 0) (λ e. some (both-open ∙ e)))

  -- with one outside no lane is undecided against both
  pub parted-before : bit_and lower.undecided upper.undecided ≡ 0 → Standing planes band
      (record {
        undecided = bit_or lower.undecided upper.undecided;
        upper = upper.undecided;
        outside = bit_or lower.less (2 ^ 64 - 1 - bit_or upper.less upper.undecided);
        taken = 0;
      })
  parted-before none =
      let any_open : bit_or lower.undecided upper.undecided ≡ word 64 (λ j. lo j || hi j) =
      ap₂ bit_or lower-open upper-open ∙ word_or 64 lo hi in
      let lower-less = less_is planes band.low lower low-is in
      let upper-less = less_is planes band.high upper high_is in
      let none_both : lo 0 && hi 0 ≡ false = none-same (lo 0 && hi 0) (sym both-open ∙ none) in
      record {
        few = omega arith;
        open_is = any_open;
        out_is = rw (lower-less, upper-less, upper-open, word_or, word-not, word_or)
            (word-ext 64 (λ j _. rw (above_is planes (length planes) 0 (omega arith) band.high j)));
        sided = λ _ j l. rw (any_open, upper-open, has_word _ j l, has_word hi j l)
            (sides (lo j) (hi j) (both-same j ∙ none_both));
        needed = λ k h. absurd (omega arith);
      }
