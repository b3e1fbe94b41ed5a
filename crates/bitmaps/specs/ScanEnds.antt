-- How every scan ends: by its tests below n alone, and where there is no fault with the bitmap in place and its
-- ones counted.
use Rattle.std.specs.Prelude.{◌≡◌, Bool, List, ℕ, ◌<◌, take, Ok}
use Rattle.std.proofs.Common.{ap, ap₂, ◌∙◌}
use Rattle.rules.specs.Bits.{ceil, put}
use Rattle.rules.specs.Bitmap.{bitmap, tally}
use Rattle.rules.specs.Answer.{accepted, answered, scanned}
use Rattle.rules.specs.Answer.Outcome.{outcome}
use Rattle.rules.specs.Refusals.{answer_of}
use Rattle.rules.specs.declared.Answer.{Answer}
use Rattle.answers.specs.Laws.{accepted_is}
use Rattle.bitmaps.specs.Counts.{count_ones, tally-ext}
use Rattle.bitmaps.specs.Bitmaps.{bitmap-ext, count-bitmap, take-bitmap}

-- tests that agree below n have one answer
pub scanned-ext : (fault n : ℕ) (f g : ℕ → Bool) (before : List ℕ) → ((i : ℕ) → i < n → f i ≡ g i)
    → scanned fault n f before ≡ scanned fault n g before
scanned-ext fault n f g before same =
    ap₂ (λ (count : ℕ) (bits : List ℕ). answered fault count bits before) (tally-ext n same) (bitmap-ext n same)

pub scanned_is : (fault n : ℕ) (test : ℕ → Bool) (before after : List ℕ) (r : Answer) → fault ≡ 0
    → after ≡ put before 0 (bitmap n test) → r ≡ accepted (count_ones (take (ceil n 8) after))
    → outcome r after ≡ scanned fault n test before
scanned_is fault n test before after r none put counted =
    let ones : count_ones (take (ceil n 8) after) ≡ tally n test =
    ap (λ (l : List ℕ). count_ones (take (ceil n 8) l)) put ∙ ap count_ones (take-bitmap before n test)
    ∙ count-bitmap n test in
    accepted_is (tally n test) (bitmap n test) before r fault after none (counted ∙ ap accepted ones) put

-- likewise where the count is given as a call's number
pub scanned_call : (fault n count : ℕ) (test : ℕ → Bool) (before after : List ℕ) → fault ≡ 0
    → after ≡ put before 0 (bitmap n test) → count ≡ count_ones (take (ceil n 8) after)
    → outcome (answer_of (Ok count)) after ≡ scanned fault n test before
scanned_call fault n count test before after none put counted =
    scanned_is fault n test before after (accepted count) none put (ap accepted counted)
