-- What is known of a page without a fault.
use Rattle.std.specs.Prelude.{◌≡◌, List, ℕ, ◌*◌, ◌≤◌, ltb, length}
use Rattle.std.proofs.Common.{mul-le-mul, arith, ltb-false}
use Rattle.rules.specs.Bits.{Order}
use Rattle.rules.specs.Answer.{faulty, ◌then◌}
use Rattle.rules.specs.Horizontal.{page_bytes, unused, page_fault}
use Rattle.answers.specs.Laws.{then_zero, not-faulty}

-- its length is exact, and its unused bits are 0
pub good-page : (o : Order) (page : List ℕ) (w n : ℕ) → page_fault o page w n ≡ 0
    → (length page ≡ page_bytes w n) × (unused o page w n ≡ 0)
unfolding page_fault
good-page o page w n e =
    let short = faulty (ltb (length page) (page_bytes w n)) 5 in
    let long = faulty (ltb (page_bytes w n) (length page)) 6 in
    let z = then_zero short (long then faulty (ltb 0 (unused o page w n)) 7) e in
    let y = then_zero long (faulty (ltb 0 (unused o page w n)) 7) z.1 in
    let enough : page_bytes w n ≤ length page = ltb-false _ _ (not-faulty _ 5 (λ h. omega arith) z.0) in
    let all : length page ≤ page_bytes w n = ltb-false _ _ (not-faulty _ 6 (λ h. omega arith) y.0) in
    let clear : unused o page w n ≤ 0 = ltb-false _ _ (not-faulty _ 7 (λ h. omega arith) y.1) in
    (omega arith, omega arith)

-- the bits of a page within the limits
pub bits_le : (w n : ℕ) → w ≤ 32 → n ≤ 16384 → n * w ≤ 524288
bits_le w n hw hn = mul-le-mul hn hw
