-- The values of a dictionary: signed numbers of 32 bits, which ascend where it has no fault.
use Rattle.std.specs.Prelude.{◌≡◌, refl, Bool, true, false, not, ◌||◌, List, ℕ, zero, suc, ◌+◌, ◌-◌, ◌*◌, ◌%◌, ◌≤◌, ◌<◌, ltb, eqb, pos, take, drop, get_or}
use Rattle.std.proofs.Math.Path.{ap}
use Rattle.std.proofs.Common.{ap₂, ◌∙◌, add-mul, arith, drop_of_length-le, ltb-true, ltb-false, eqb-true}
use Rattle.std.proofs.Math.ListN.{length, get_or-append}
use Rattle.std.specs.Int.Signed.{le_z}
use Rattle.std.proofs.lemmas.Bool.{not-false}
use Rattle.rules.specs.Bits.{joined, number, put, tabulate, field}
use Rattle.rules.specs.Bits.Order.{low_first}
use Rattle.rules.specs.Signed.{signed, Within}
use Rattle.rules.specs.Dictionary.{value, count, unordered, dictionary_fault}
use Rattle.words.specs.Tests.{neither}
use Rattle.words.specs.Tabulated.{length-tabulate, get_or-tabulate, tabulate-ext, put-tabulate_on}
use Rattle.words.specs.SomeBelow.{below_none}
use Rattle.answers.specs.Laws.{not-faulty}
use Rattle.signed.specs.Order.{le_z-refl, le_z_trans, le_z_total}
use Rattle.signed.specs.Remainders.{signed-within}

pub value-within : (dict : List ℕ) (k : ℕ) → Within 32 (value dict k)
unfolding value
value-within dict k = signed-within 32 (number (take 4 (drop (4 * k) dict))) (omega arith)

-- no bytes make 0
pub value-past : (dict : List ℕ) (k : ℕ) → length dict ≤ 4 * k → value dict k ≡ pos 0
unfolding value joined signed
value-past dict k h = rw (drop_of_length-le dict {i = 4 * k} h)

-- ---- a dictionary without a fault

pub record Good (dict : List ℕ) : Type 0 where
  pub whole : length dict % 4 ≡ 0
  pub short : length dict ≤ 65536
  pub ordered : unordered dict ≡ false

pub good-dictionary : (dict : List ℕ) → dictionary_fault dict ≡ 0 → Good dict
unfolding dictionary_fault
good-dictionary dict e =
    let f =
    neither (not (eqb (length dict % 4) 0) || ltb 65536 (length dict)) (unordered dict)
    (not-faulty _ 14 (λ z. omega arith) e) in
    let g = neither (not (eqb (length dict % 4) 0)) (ltb 65536 (length dict)) f.0 in
    record {
      whole = eqb-true (length dict % 4) 0 (not-false _ g.0);
      short = ltb-false 65536 (length dict) g.1;
      ordered = f.1;
    }

-- a later value is no smaller
pub ascends : (dict : List ℕ) → unordered dict ≡ false → (j k : ℕ) → j ≤ k → k < count dict
    → le_z (value dict j) (value dict k) ≡ true
unfolding unordered
ascends dict e j zero l h = let z : j ≡ 0 = omega arith in rw z (le_z-refl (value dict 0))
ascends dict e j (suc k) l h = go (λ m. ascends dict e j k m (omega arith)) (ltb k j) refl
  where
    next : le_z (value dict k) (value dict (suc k)) ≡ true
    next =
        le_z_total (value dict (suc k)) (value dict k)
        (below_none (count dict - 1) (λ i. le_z (value dict (suc i)) (value dict i)) e k (omega arith))

    go : (j ≤ k → le_z (value dict j) (value dict k) ≡ true) → (t : Bool) → ltb k j ≡ t
        → le_z (value dict j) (value dict (suc k)) ≡ true
    go before true f = let z : j ≡ suc k = omega (arith, ltb-true k j f) in rw z (le_z-refl (value dict (suc k)))
    go before false f = le_z_trans (value dict j) (value dict k) (value dict (suc k)) (before (ltb-false k j f)) next

-- ---- values looked up

module _ {A : Type 0} (value : ℕ → A) where
  -- of the indexes in front of a list
  pub listed : (l : List ℕ) (m : ℕ) (f : ℕ → ℕ)
      → tabulate m (λ k. value (get_or (put l 0 (tabulate m f)) k 0)) ≡ tabulate m (λ k. value (f k))
  unfolding put
  listed l m f =
      tabulate-ext m (λ k. value (get_or (put l 0 (tabulate m f)) k 0)) (λ k. value (f k))
      (λ k h. ap value
      (get_or-append (tabulate m f) (drop (0 + length (tabulate m f)) l) 0 k (rw (length-tabulate m f) h)
      ∙ get_or-tabulate m f k 0 h))

  -- i of them are in place, and m more, which begin at byte `from`, are put behind them
  pub looked_on : (page : List ℕ) (out before after : List A) (p i m from start w : ℕ)
      → 8 * from ≡ 8 * start + i * w → p + i + m ≤ length out
      → before ≡ put out p (tabulate i (λ k. value (field low_first page (8 * start + k * w) w)))
      → after ≡ put before (p + i) (tabulate m (λ k. value (field low_first page (8 * from + k * w) w)))
      → after ≡ put out p (tabulate (i + m) (λ k. value (field low_first page (8 * start + k * w) w)))
  looked_on page out before after p i m from start w at room e f =
      let v : ℕ → A = λ k. value (field low_first page (8 * start + k * w) w) in
      let place : (k : ℕ) → 8 * from + k * w ≡ 8 * start + (i + k) * w = λ k. omega (arith, add-mul i k w) in
      f
      ∙ ap₂ (λ (l vs : List A). put l (p + i) vs) e
      (tabulate-ext m (λ k. value (field low_first page (8 * from + k * w) w)) (λ k. v (i + k))
      (λ k h. ap (λ (b : ℕ). value (field low_first page b w)) (place k)))
      ∙ put-tabulate_on out p i m v room
