-- What is known of a column without a fault.
use Rattle.std.specs.Prelude.{◌≡◌, false, List, ℕ, ◌*◌, ◌≤◌, ltb, length}
use Rattle.std.proofs.Common.{mul-le-mul, arith, ltb-false}
use Rattle.rules.specs.Bits.{ceil}
use Rattle.rules.specs.Answer.{faulty, ◌then◌}
use Rattle.rules.specs.Vertical.{page_words, unused, page_fault}
use Rattle.answers.specs.Laws.{then_zero, not-faulty}

-- its length is exact, and its unused lanes are 0
pub good-column : (words : List ℕ) (w n : ℕ) → page_fault words w n ≡ 0
    → (length words ≡ page_words w n) × (unused words w n ≡ false)
unfolding page_fault
good-column words w n e =
    let short = faulty (ltb (length words) (page_words w n)) 5 in
    let long = faulty (ltb (page_words w n) (length words)) 6 in
    let z = then_zero short (long then faulty (unused words w n) 7) e in
    let y = then_zero long (faulty (unused words w n) 7) z.1 in
    let enough : page_words w n ≤ length words = ltb-false _ _ (not-faulty _ 5 (λ h. omega arith) z.0) in
    let all : length words ≤ page_words w n = ltb-false _ _ (not-faulty _ 6 (λ h. omega arith) y.0) in
    (omega arith, not-faulty _ 7 (λ h. omega arith) y.1)

-- the words of a column within the limits
pub words_le : (w n : ℕ) → w ≤ 32 → n ≤ 16384 → ceil n 64 * w ≤ 8192
words_le w n hw hn = mul-le-mul (few) hw
  where
    few : ceil n 64 ≤ 256
    few = omega arith
